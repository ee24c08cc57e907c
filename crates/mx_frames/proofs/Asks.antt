-- Asks of nodes that are known.
use Rattle.std.proofs.Common.{◌≡◌, List, None, map, sym, ◌∙◌, ap, subst}
use Rattle.mx_graph.specs.declared.ids.NodeId.{NodeId}
use Rattle.mx_value.specs.declared.node.Node.{Node}
use Rattle.mx_value.specs.declared.read.Read.{Read}
use Rattle.mx_value.specs.declared.read.Read.TheVariants as read
use Rattle.mx_value.specs.Equality.{read_eq}
use Rattle.mx_value.proofs.NodeSames.{read_decides}
use Rattle.mx_edit.specs.declared.key.Key.{Key}
use Rattle.mx_edit.specs.declared.key.Key.TheVariants.{Input}
use Rattle.mx_edit.specs.declared.reply.Reply.{Reply}
use Rattle.mx_edit.specs.Equality.{key_eq}
use Rattle.mx_edit.specs.Entry.{Entry}
use Rattle.mx_edit.proofs.Keys.{key_decides}
use Rattle.mx_vertices.specs.Kept.{Kept}
use Rattle.mx_vertices.specs.Reading.{id_at}
use Rattle.mx_memo.specs.Memos.{Memory, AreHeld}
use Rattle.mx_runs.specs.Runs.{Model, Asks}
use Rattle.mx_suspended.specs.Recorded.{Recorded, Adds, GoesPast, Stays, PastHeld, PastInput}
use Rattle.mx_memo_laws.specs.Entries.{entries_of, entry_of, node_under, nodes_under}
use Rattle.mx_memo_laws.specs.Laws.{HeldOnce}
use Rattle.mx_read_set.specs.Seen.{Seen, added, with_key, with_read}
use Rattle.mx_binding.specs.Records.{recorded_in, with_ask}
use Rattle.mx_binding.specs.declared.records.Records.{Records}
use Rattle.mx_binding.proofs.Recording.{added_adds, ask_adds, has_map}
use Rattle.mx_frames.specs.Known.{RepliesInput, GivesHeld}
use Rattle.mx_frames.specs.Asking.{IsAnswered}

pub key_adds : (keys : List Key) (key : Key) → Adds keys key (added key_eq keys key)
key_adds keys key = added_adds key_eq (λ a b. (key_decides a b)) keys key

pub read_adds : (reads : List Read) (r : Read) → Adds reads r (added read_eq reads r)
read_adds reads r = added_adds read_eq (λ a b. (read_decides a b)) reads r

-- what is recorded, by its parts
pub recorded_as : (held : List Kept) (r : Records) (seen : Seen) (asks : List NodeId) → r.seen ≡ seen → r.asks ≡ asks → recorded_in held r ≡ record { keys = seen.keys; asks = nodes_under held (map id_at asks); reads = seen.reads }
recorded_as held r seen asks s a =
    ap (λ (x : Seen). record { keys = x.keys; asks = nodes_under held (map id_at r.asks); reads = x.reads }) s
    ∙ ap (λ (ids : List NodeId). record { keys = seen.keys; asks = nodes_under held (map id_at ids); reads = seen.reads }) a

module _ (model : Model) (m : Memory) (n : Node) (olds news : Records) where
  -- an input answers by the value that was put in
  pub input_answers : (r : Reply) → RepliesInput model n r → news.seen ≡ with_read (read.Node n) (with_key (Input n) olds.seen) → news.asks ≡ olds.asks → IsAnswered model m n r olds news
  input_answers r i s a = λ go.
      let q : recorded_in m.held news ≡ record { keys = added key_eq olds.seen.keys (Input n); asks = nodes_under m.held (map id_at olds.asks); reads = added read_eq olds.seen.reads (read.Node n) } =
      recorded_as m.held news (with_read (read.Node n) (with_key (Input n) olds.seen)) olds.asks s a in
      subst (λ (x : Reply). GoesPast model (entries_of m.held) (Asks n go) (recorded_in m.held olds) (go x) (recorded_in m.held news)) (sym i.is)
      (subst (λ (x : Recorded). GoesPast model (entries_of m.held) (Asks n go) (recorded_in m.held olds) (go (record { value = i.value; namespace = None })) x) (sym q)
      (PastInput n i.value go _ (recorded_in m.held olds) _ (added key_eq olds.seen.keys (Input n)) (added read_eq olds.seen.reads (read.Node n)) i.input.is i.input.value (key_adds olds.seen.keys (Input n)) (read_adds olds.seen.reads (read.Node n)) (Stays _ _)))

  -- a held node answers by what is held
  pub held_answers : HeldOnce m.held → AreHeld m.held olds.asks → (id : NodeId) (r : Reply) → GivesHeld m.held id.at n r → node_under m.held id.at ≡ n → news.seen ≡ with_read (read.Node n) olds.seen → news.asks ≡ with_ask id olds.asks → IsAnswered model m n r olds news
  held_answers once fit id r g under s a = λ go.
      let e : Entry = entry_of m.held g.entry in
      let q : recorded_in m.held news ≡ record { keys = olds.seen.keys; asks = nodes_under m.held (map id_at (with_ask id olds.asks)); reads = added read_eq olds.seen.reads (read.Node n) } =
      recorded_as m.held news (with_read (read.Node n) olds.seen) (with_ask id olds.asks) s a in
      let asks : Adds (nodes_under m.held (map id_at olds.asks)) n (nodes_under m.held (map id_at (with_ask id olds.asks))) =
      subst (λ (x : Node). Adds (nodes_under m.held (map id_at olds.asks)) x (nodes_under m.held (map id_at (with_ask id olds.asks)))) g.node_is
      (ask_adds m.held once olds.asks fit id g.entry g.among g.id_is (under ∙ sym g.node_is)) in
      let past : GoesPast model (entries_of m.held) (Asks e.node go) (recorded_in m.held olds) (go e.reply) (record { keys = olds.seen.keys; asks = nodes_under m.held (map id_at (with_ask id olds.asks)); reads = added read_eq olds.seen.reads (read.Node n) }) =
      PastHeld e go (go e.reply) (recorded_in m.held olds) _ (nodes_under m.held (map id_at (with_ask id olds.asks))) (added read_eq olds.seen.reads (read.Node n)) (has_map (entry_of m.held) m.held g.entry g.among)
      (subst (λ (x : Node). Adds (nodes_under m.held (map id_at olds.asks)) x (nodes_under m.held (map id_at (with_ask id olds.asks)))) (sym g.node_is) asks)
      (subst (λ (x : Node). Adds olds.seen.reads (read.Node x) (added read_eq olds.seen.reads (read.Node n))) (sym g.node_is) (read_adds olds.seen.reads (read.Node n)))
      (Stays _ _) in
      subst (λ (x : Recorded). GoesPast model (entries_of m.held) (Asks n go) (recorded_in m.held olds) (go r) x) (sym q)
      (subst (λ (x : Reply). GoesPast model (entries_of m.held) (Asks n go) (recorded_in m.held olds) (go x) (record { keys = olds.seen.keys; asks = nodes_under m.held (map id_at (with_ask id olds.asks)); reads = added read_eq olds.seen.reads (read.Node n) })) g.reply_is
      (subst (λ (x : Node). GoesPast model (entries_of m.held) (Asks x go) (recorded_in m.held olds) (go e.reply) (record { keys = olds.seen.keys; asks = nodes_under m.held (map id_at (with_ask id olds.asks)); reads = added read_eq olds.seen.reads (read.Node n) })) g.node_is past))
