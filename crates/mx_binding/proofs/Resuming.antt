-- A walk that waited for an item is to go on, once the item is held and recorded.
use Rattle.std.proofs.Common.{◌≡◌, List, ◌++◌, map, refl, sym, ap, subst}
use Rattle.mx_graph.specs.declared.ids.NodeId.{NodeId}
use Rattle.mx_value.specs.declared.value.Segment.{Segment}
use Rattle.mx_value.specs.declared.node.Node.{Node}
use Rattle.mx_value.specs.declared.read.Read.TheVariants as read
use Rattle.mx_edit.specs.Entry.{Entry}
use Rattle.mx_vertices.specs.declared.slot.Body.{Body}
use Rattle.mx_vertices.specs.Kept.{Kept, IsHeld}
use Rattle.mx_vertices.specs.Found.{IsHeldAs, IsHeldWith}
use Rattle.mx_vertices.specs.Reading.{id_at}
use Rattle.mx_memo.specs.Memos.{Memory, AreHeld}
use Rattle.mx_runs.specs.Lists.{Has}
use Rattle.mx_runs.specs.Runs.{Model}
use Rattle.mx_runs.proofs.Lists.{has_left}
use Rattle.mx_answers.specs.Records.{IsRightMemo}
use Rattle.mx_suspended.specs.Recorded.{Adds}
use Rattle.mx_read_set.specs.Seen.{Seen, with_read}
use Rattle.mx_memo_laws.specs.Entries.{entries_of, nodes_under, IsOrdered}
use Rattle.mx_memo_laws.specs.Laws.{HasGrown}
use Rattle.mx_memo_laws.proofs.Growing.{entries_stay}
use Rattle.mx_memo_laws.proofs.Members.{among, placed}
use Rattle.mx_binding.specs.Records.{recorded_in, with_ask}
use Rattle.mx_binding.specs.declared.records.Records.{Records}
use Rattle.mx_binding.specs.declared.walking.Led.TheVariants as led
use Rattle.mx_binding.specs.Walking.{Address, IsLed, GoesOn}
use Rattle.mx_binding.proofs.Recording.{all_grown}
use Rattle.mx_binding.proofs.Passing.{is_answered, asks_added, reads_added, fit_still}

-- what was held under ids is held under them
pub still_held : (held more : List Kept) (ids : List NodeId) → AreHeld held ids → AreHeld (held ++ more) ids
still_held held more ids fit id i =
    let h : IsHeld held id.at = fit id i in
    record {
      entry = h.entry;
      among = placed (held ++ more) h.entry (has_left held more h.entry (among held h.entry h.among));
      is = h.is;
    }

module _ (model : Model) (earlier m : Memory) (at : Address) (rest : List Segment) (item : Node) (before after : Records) where
  -- it waited, more was held, and the item among it; the item is recorded as asked and read
  unfoldable pub goes_on : IsLed model earlier.held at (led.Waits item rest) before → IsOrdered earlier → HasGrown earlier m → IsRightMemo model (entries_of m.held) → IsOrdered m → (id : NodeId) (body : Body) → IsHeldAs m.held id.at item → IsHeldWith m.held id.at body → after.seen ≡ with_read (read.Node item) before.seen → after.asks ≡ with_ask id before.asks → GoesOn model m.held at rest body.reply.namespace after
  goes_on l first grown right ordered id body of with seen asks =
      let stay = entries_stay earlier m first grown in
      let fit : AreHeld m.held before.asks = subst (λ (held : List Kept). AreHeld held before.asks) (sym grown.is) (still_held earlier.held grown.more before.asks l.stands.asks) in
      let same : nodes_under m.held (map id_at before.asks) ≡ nodes_under earlier.held (map id_at before.asks) =
      subst (λ (held : List Kept). nodes_under held (map id_at before.asks) ≡ nodes_under earlier.held (map id_at before.asks)) (sym grown.is) (all_grown earlier.held grown.more before.asks l.stands.asks) in
      record {
        earlier = entries_of earlier.held;
        still = λ e h. subst (λ (held : List Entry). Has held e) (sym stay.is) (has_left (entries_of earlier.held) stay.more e h);
        item = item;
        before = recorded_in earlier.held before;
        waited = l.stands.walk;
        reply = body.reply;
        answered = is_answered model m right ordered item id body of with;
        came_is = refl;
        keys = ap (λ (s : Seen). s.keys) seen;
        asks = subst (λ (ns : List Node). Adds ns item (recorded_in m.held after).asks) same (asks_added model m right ordered item id body of with before after seen asks fit);
        reads = reads_added model m right ordered item id body of with before after seen asks fit;
        held_asks = fit_still model m right ordered item id body of with before after seen asks fit;
      }
