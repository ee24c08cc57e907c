use Rattle.std.proofs.Common.{◌≡◌, ◌-◌, true, Some, slice_index, slice_set, sym, ap, subst, ◌∙◌}
use Rattle.mx_c3.specs.Merge.{head, tail, same}
use Rattle.mx_c3.specs.Taking.{Follows}
use Rattle.mx_c3.proofs.ListLemmas.{not_false}
use Rattle.mx_c3.proofs.CountLemmas.{tail_room, drop_head_same, follows_move}
use Rattle.mx_c3.proofs.merge.take_head.Goals as goal

pub bounds-counts-next : goal.bounds-counts-next
bounds-counts-next c =
    let e : head (tail c.args.list.now) ≡ Some c.in-Some-head.next = ap head (sym c.step.ensures) ∙ sym c.in-Some-head.ensures in
    (tail_room c.args.list.now c.in-Some-head.next c.args.counts.now e c.requires).0

pub returns : goal.returns
returns c =
    let h : head c.args.list.now ≡ Some c.in-Some.head = sym c.in-Some.ensures in
    let s : same c.in-Some.head c.args.space ≡ true = not_false (same c.in-Some.head c.args.space) c.if-ne.ensures in
    let e : head (tail c.args.list.now) ≡ Some c.in-Some-head.next = ap head (sym c.step.ensures) ∙ sym c.in-Some-head.ensures in
    record {
      list = c.step.ensures ∙ sym (drop_head_same c.args.list.now c.in-Some.head c.args.space h s);
      counted = subst (λ ys. Follows c.args.list.now c.args.counts.now ys (slice_set c.args.counts.now c.in-Some-head.next.0 (slice_index c.args.counts.now c.in-Some-head.next.0 - 1))) (sym c.step.ensures) (follows_move c.args.list.now c.in-Some-head.next c.args.counts.now e c.requires);
    }
