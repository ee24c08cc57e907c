-- What is read of a memo is what its entries have.
use Rattle.std.proofs.Common.{◌≡◌, ◌∙◌, List, map, refl, sym, ap, subst}
use Rattle.mx_graph.specs.declared.ids.NodeId.{NodeId}
use Rattle.mx_value.specs.declared.node.Node.{Node}
use Rattle.mx_value.proofs.NodeSames.{node_decides}
use Rattle.mx_edit.specs.Entry.{Entry}
use Rattle.mx_vertices.specs.Kept.{Kept, Source, looked, asked, IsHeld}
use Rattle.mx_vertices.specs.Reading.{DidTake, AreTakers, keys_in, asks_in, id_at}
use Rattle.mx_vertices.specs.Places as places
use Rattle.mx_memo.specs.Memos.{Memory}
use Rattle.mx_memo.specs.Namespaces.{namespace_held}
use Rattle.mx_memo.proofs.Held.{namespace_of_held, namespace_of_new}
use Rattle.mx_runs.specs.Lists.{Has}
use Rattle.mx_runs.proofs.Lists.{has_map, From, has_map_from}
use Rattle.mx_memo_laws.specs.Entries.{node_under, nodes_under, entry_of, IsOrdered}
use Rattle.mx_memo_laws.specs.Laws.{NamespaceIsEntered, NoNamespaceIsHeld, AskersAreEntered, ReadersAreEntered}
use Rattle.mx_memo_laws.proofs.Members.{among, placed, ask_in, ask_out, key_in, key_out}
use Rattle.mx_memo_laws.proofs.Nodes.{node_of_id, asks_are_held, held_of, entered, one_node, one_under_id, new_is_not_entered}

pub namespace_is_entered : NamespaceIsEntered
namespace_is_entered held e once h =
    let f : From (entry_of held) held e = held_of held e h in
    let there : places.Has held f.item = placed held f.item f.among in
    subst (λ (x : Entry). namespace_held held x.node ≡ x.reply.namespace) f.is
    (namespace_of_held node_decides held f.item.body.node f.item.body
    (λ r i e. ap (λ (k : Kept). k.body) (one_node held once r f.item (among held r i) f.among e)) f.item there refl)

pub no_namespace_is_held : NoNamespaceIsHeld
no_namespace_is_held held n none = namespace_of_new node_decides held n ((new_is_not_entered held n).1 none)

-- a held node whose run took a source, by the id and by the node of it
module _ (m : Memory) (o : IsOrdered m) (source : Source) (ids : List NodeId) (takers : AreTakers m.held source ids) (x : Node) where
  taker : Has (nodes_under m.held (map id_at ids)) x → (r : Kept) × places.Has m.held r × (r.body.node ≡ x) × places.Has r.sources source
  taker h =
      let f : From (node_under m.held) (map id_at ids) x = has_map_from (node_under m.held) (map id_at ids) x h in
      let t : DidTake m.held source f.item = (takers f.item).0 (placed (map id_at ids) f.item f.among) in
      (t.entry, t.among, sym (node_of_id m.held o.stands.apart t.entry t.among f.item t.id_is) ∙ f.is, t.takes)

  taken : (r : Kept) → places.Has m.held r → r.body.node ≡ x → places.Has r.sources source → Has (nodes_under m.held (map id_at ids)) x
  taken r h e k =
      let i : places.Has (map id_at ids) r.id = (takers r.id).1 (record { entry = r; among = h; id_is = refl; takes = k }) in
      subst (λ n. Has (nodes_under m.held (map id_at ids)) n) (node_of_id m.held o.stands.apart r h r.id refl ∙ e)
      (has_map (node_under m.held) (map id_at ids) r.id (among (map id_at ids) r.id i))

pub askers_are_entered : AskersAreEntered
askers_are_entered m id n ids o once h takers x = (
  λ i.
      let t = taker m o (asked id) ids takers x i in
      record {
        entry = entry_of m.held t.0;
        among = entered m.held t.0 t.1;
        node_is = t.2;
        asks = subst (λ y. Has (nodes_under m.held (asks_in t.0.sources)) y) (one_under_id m id n o h)
            (has_map (node_under m.held) (asks_in t.0.sources) id (ask_in t.0.sources id t.3));
      },
  λ a.
      let f : From (entry_of m.held) m.held a.entry = held_of m.held a.entry a.among in
      let there : places.Has m.held f.item = placed m.held f.item f.among in
      let asks : Has (nodes_under m.held (asks_in f.item.sources)) n = subst (λ (e : Entry). Has e.asks n) (sym f.is) a.asks in
      let g : From (node_under m.held) (asks_in f.item.sources) n = has_map_from (node_under m.held) (asks_in f.item.sources) n asks in
      let ask : places.Has f.item.sources (asked g.item) = ask_out f.item.sources g.item g.among in
      let s : IsHeld m.held g.item = asks_are_held m.held o.asks f.item there g.item ask in
      let node : s.entry.body.node ≡ h.entry.body.node
      = sym (node_of_id m.held o.stands.apart s.entry s.among g.item s.is) ∙ g.is ∙ sym h.node_is in
      let one : s.entry ≡ h.entry = one_node m.held once s.entry h.entry (among m.held s.entry s.among) (among m.held h.entry h.among) node in
      let same : g.item ≡ id = sym s.is ∙ ap (λ (r : Kept). r.id) one ∙ h.id_is in
      taken m o (asked id) ids takers x f.item there (ap (λ (e : Entry). e.node) f.is ∙ a.node_is)
      (subst (λ j. places.Has f.item.sources (asked j)) same ask),
)

pub readers_are_entered : ReadersAreEntered
readers_are_entered m key ids o takers x = (
  λ i.
      let t = taker m o (looked key) ids takers x i in
      record { entry = entry_of m.held t.0; among = entered m.held t.0 t.1; node_is = t.2; reads = key_in t.0.sources key t.3 },
  λ a.
      let f : From (entry_of m.held) m.held a.entry = held_of m.held a.entry a.among in
      let keys : Has (keys_in f.item.sources) key = subst (λ (e : Entry). Has e.keys key) (sym f.is) a.reads in
      taken m o (looked key) ids takers x f.item (placed m.held f.item f.among) (ap (λ (e : Entry). e.node) f.is ∙ a.node_is)
      (key_out f.item.sources key keys),
)
