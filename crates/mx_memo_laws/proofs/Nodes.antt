-- The nodes under ids, and the entries of held nodes.
use Rattle.std.proofs.Common.{◌≡◌, ◌∙◌, ℕ, ◌≤◌, true, false, cond, eqb, List, [], ◌∷◌, ◌++◌, map, refl, sym, ap, subst, arith, inl, inr}
use Rattle.std.proofs.lemmas.Bool.{eqb-true, eqb-false}
use Rattle.std.proofs.lemmas.List.{append-nil, length-map}
use Rattle.mx_edit.specs.Entry.{Entry}
use Rattle.mx_vertices.specs.declared.slot.Body.{Body}
use Rattle.mx_vertices.specs.Kept.{Kept, asked, IsHeld}
use Rattle.mx_vertices.specs.Reading.{keys_in, asks_in, id_at}
use Rattle.mx_vertices.specs.Places as places
use Rattle.mx_memo.specs.Order.{StampsRise}
use Rattle.mx_memo.specs.Restoring.{AreApart, AskBefore}
use Rattle.mx_memo.proofs.Restoring.{one_entry, asks_front}
use Rattle.mx_runs.specs.Lists.{Has, Distinct}
use Rattle.mx_runs.proofs.Lists.{has_map, From, has_map_from}
use Rattle.mx_answers.specs.Held.{nodes_of}
use Rattle.mx_answers.proofs.Held.{named}
use Rattle.mx_memo_laws.specs.Entries.{node_under, nodes_under, entry_of, entries_of}
use Rattle.mx_memo_laws.specs.Laws.{HeldOnce, HeldIsEntered, EnteredIsHeld, NewIsNotEntered, EntryIsOfBody, BodyIsEntered, OneUnderId, BodyIsOfNode, AsksAreEntered, AsManyEntries, OrderIsOfHeld, ReadIsEntered}
use Rattle.mx_memo_laws.proofs.Members.{among, placed, map_same, one_mapped, ask_out}

-- the node under the id of a held node
pub node_of_id : (held : List Kept) → AreApart held → (r : Kept) → places.Has held r → (id : ℕ) → r.id ≡ id → node_under held id ≡ r.body.node
node_of_id [] a r h id e = absurd h
node_of_id (x ∷ held) a r h id e =
    elim (eqb x.id id) as (λ b. eqb x.id id ≡ b → cond b x.body.node (node_under held id) ≡ r.body.node) [
      | true ↦ λ t. elim h [
        | inl i ↦ ap (λ (k : Kept). k.body.node) i
        | inr i ↦ absurd (a.0 r i (eqb-true x.id id t ∙ sym e))
      ]
      | false ↦ λ t. elim h [
        | inl i ↦ absurd (eqb-false x.id id t (ap (λ (k : Kept). k.id) i ∙ e))
        | inr i ↦ node_of_id held a.1 r i id e
      ]
    ] refl

-- what is held later hides no node
pub under_front : (held more : List Kept) (id : ℕ) → IsHeld held id → node_under (held ++ more) id ≡ node_under held id
under_front [] more id h = absurd h.among
under_front (x ∷ held) more id h =
    elim (eqb x.id id) as (λ b. eqb x.id id ≡ b → cond b x.body.node (node_under (held ++ more) id) ≡ cond b x.body.node (node_under held id)) [
      | true ↦ λ t. refl
      | false ↦ λ t. elim h.among [
        | inl i ↦ absurd (eqb-false x.id id t (ap (λ (k : Kept). k.id) i ∙ h.is))
        | inr i ↦ under_front held more id (record { entry = h.entry; among = i; is = h.is })
      ]
    ] refl

-- an entry depends on the nodes alone that it asked
pub entry_same : (held others : List Kept) (r : Kept) → ((m : ℕ) → places.Has r.sources (asked m) → node_under held m ≡ node_under others m) → entry_of held r ≡ entry_of others r
entry_same held others r h =
    ap (λ ns. record { node = r.body.node; reply = r.body.reply; keys = keys_in r.sources; asks = ns; reads = r.body.reads })
    (map_same (node_under held) (node_under others) (asks_in r.sources) (λ m i. h m (ask_out r.sources m i)))

-- what a held node asked is held
pub asks_are_held : (held : List Kept) → AskBefore [] held → (r : Kept) → places.Has held r → (m : ℕ) → places.Has r.sources (asked m) → IsHeld held m
asks_are_held held order r h m k =
    elim (asks_front [] held [] (subst (λ xs. AskBefore [] xs) (sym (append-nil held)) order) r h m k) [
      | inl z ↦ absurd z
      | inr s ↦ s
    ]

-- the held node of an entry
pub held_of : (held : List Kept) (e : Entry) → Has (entries_of held) e → From (entry_of held) held e
held_of held e h = has_map_from (entry_of held) held e h

pub entered : (held : List Kept) (r : Kept) → places.Has held r → Has (entries_of held) (entry_of held r)
entered held r h = has_map (entry_of held) held r (among held r h)

pub nodes_are : (held rs : List Kept) → nodes_of (map (entry_of held) rs) ≡ map (λ (r : Kept). r.body.node) rs
nodes_are held [] = refl
nodes_are held (r ∷ rs) = ap (λ ns. r.body.node ∷ ns) (nodes_are held rs)

-- a node is held once
pub one_node : (held : List Kept) → HeldOnce held → (r s : Kept) → Has held r → Has held s → r.body.node ≡ s.body.node → r ≡ s
one_node held once r s h k e =
    one_mapped (λ (x : Kept). x.body.node) held (subst (λ ns. Distinct ns) (nodes_are held held) once) r s h k e

pub held_is_entered : HeldIsEntered
held_is_entered held id n h =
    subst (λ x. Has (nodes_of (entries_of held)) x) h.node_is (named (entries_of held) (entry_of held h.entry) (entered held h.entry h.among))

pub entered_is_held : EnteredIsHeld
entered_is_held held n h =
    let f : From (λ (e : Entry). e.node) (entries_of held) n = has_map_from (λ (e : Entry). e.node) (entries_of held) n h in
    let g = held_of held f.item f.among in
    record {
      id = g.item.id;
      is = record {
        entry = g.item;
        among = placed held g.item g.among;
        id_is = refl;
        node_is = ap (λ (e : Entry). e.node) g.is ∙ f.is;
      };
    }

pub new_is_not_entered : NewIsNotEntered
new_is_not_entered held n = (
  λ new h. let u = entered_is_held held n h in new u.is.entry u.is.among u.is.node_is,
  λ none r i e. none (held_is_entered held r.id n (record { entry = r; among = i; id_is = refl; node_is = e })),
)

pub entry_is_of_body : EntryIsOfBody
entry_is_of_body held e h =
    let f : From (entry_of held) held e = held_of held e h in
    record {
      id = f.item.id;
      body = f.item.body;
      is = record { entry = f.item; among = placed held f.item f.among; id_is = refl; body_is = refl };
      node_is = ap (λ (x : Entry). x.node) (sym f.is);
      reply_is = ap (λ (x : Entry). x.reply) (sym f.is);
      reads_are = ap (λ (x : Entry). x.reads) (sym f.is);
    }

pub body_is_entered : BodyIsEntered
body_is_entered held id body h = record {
  entry = entry_of held h.entry;
  among = entered held h.entry h.among;
  node_is = ap (λ (b : Body). b.node) h.body_is;
  reply_is = ap (λ (b : Body). b.reply) h.body_is;
  reads_are = ap (λ (b : Body). b.reads) h.body_is;
}

pub one_under_id : OneUnderId
one_under_id m id n o h = node_of_id m.held o.stands.apart h.entry h.among id h.id_is ∙ h.node_is

pub body_is_of_node : BodyIsOfNode
body_is_of_node m id n body o h b =
    let one : b.entry ≡ h.entry = one_entry m.held o.stands.apart b.entry h.entry b.among h.among (b.id_is ∙ sym h.id_is) in
    ap (λ (x : Body). x.node) (sym b.body_is) ∙ ap (λ (r : Kept). r.body.node) one ∙ h.node_is

pub asks_are_entered : AsksAreEntered
asks_are_entered m ids x o held h =
    let f : From (node_under m.held) (map id_at ids) x = has_map_from (node_under m.held) (map id_at ids) x h in
    let g : From id_at ids f.item = has_map_from id_at ids f.item f.among in
    let s : IsHeld m.held g.item.at = held g.item (placed ids g.item g.among) in
    held_is_entered m.held f.item x
    (record { entry = s.entry; among = s.among; id_is = s.is ∙ g.is; node_is = sym (node_of_id m.held o.stands.apart s.entry s.among f.item (s.is ∙ g.is)) ∙ f.is })

pub as_many_entries : AsManyEntries
as_many_entries held = length-map held (entry_of held)

pub order_is_of_held : OrderIsOfHeld
order_is_of_held old new o held last = record {
  stands = record {
    apart = subst (λ rs. AreApart rs) (sym held) o.stands.apart;
    rising = subst (λ rs. StampsRise 0 rs) (sym held) o.stands.rising;
    given = λ r h. let given : r.stamp ≤ old.last = o.stands.given r (subst (λ rs. places.Has rs r) held h) in omega (arith, given, last);
  };
  asks = subst (λ rs. AskBefore [] rs) (sym held) o.asks;
}

pub read_is_entered : ReadIsEntered
read_is_entered m id n keys ids o h k a =
    let looked : h.entry ≡ k.entry = one_entry m.held o.stands.apart h.entry k.entry h.among k.among (h.id_is ∙ sym k.id_is) in
    let asks : h.entry ≡ a.entry = one_entry m.held o.stands.apart h.entry a.entry h.among a.among (h.id_is ∙ sym a.id_is) in
    record {
      entry = entry_of m.held h.entry;
      among = entered m.held h.entry h.among;
      node_is = h.node_is;
      keys_are = ap (λ (r : Kept). keys_in r.sources) looked ∙ sym k.are;
      asks_are = ap (λ is. nodes_under m.held is) (ap (λ (r : Kept). asks_in r.sources) asks ∙ sym a.are);
    }
