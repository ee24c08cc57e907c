use Rattle.std.proofs.Common.{◌≡◌, ◌<◌, true, false, Some, None, length, get_or, slice_index, inl, inr, sym, ap, ◌∙◌}
use Rattle.mx_c3.specs.Merge.{head, in_tail}
use Rattle.mx_c3.specs.Counts.{times}
use Rattle.mx_c3.proofs.ListLemmas.{head_has, among_at}
use Rattle.mx_c3.proofs.CountLemmas.{zero_or, in_tail_none, in_tail_some}
use Rattle.mx_c3.proofs.MergeLemmas.{next_taken, next_passed, next_empty}
use Rattle.mx_c3.proofs.merge.next_head.Goals as goal

pub bounds-counts-space : goal.bounds-counts-space
bounds-counts-space c =
    let e : head (get_or c.args.rest.now c.loop-list.list-index c.list-item.result) ≡ Some c.in-Some.space = ap head (sym c.list-item.is) ∙ sym c.in-Some.ensures in
    c.requires.room c.in-Some.space (among_at c.args.rest.now c.loop-list.list-index c.list-item.result c.in-Some.space c.loop-list-test.true (head_has _ c.in-Some.space e))

pub returns-then-counts-space-eq0 : goal.returns-then-counts-space-eq0
returns-then-counts-space-eq0 c =
    let e : head (get_or c.args.rest.now c.loop-list.list-index c.list-item.result) ≡ Some c.in-Some.space = ap head (sym c.list-item.is) ∙ sym c.in-Some.ensures in
    let r : c.in-Some.space.0 < length c.args.counts.now = c.requires.room c.in-Some.space (among_at c.args.rest.now c.loop-list.list-index c.list-item.result c.in-Some.space c.loop-list-test.true (head_has _ c.in-Some.space e)) in
    let t : slice_index c.args.counts.now c.in-Some.space.0 ≡ times c.args.rest.now c.in-Some.space = c.requires.right c.in-Some.space r in
    let f : in_tail c.args.rest.now c.in-Some.space ≡ false = in_tail_none c.args.rest.now c.in-Some.space (sym t ∙ c.if-counts-space-eq0.true) in
    sym (next_taken c.args.rest.now c.args.rest.now c.loop-list.list-index c.list-item.result c.in-Some.space c.loop-list-test.true e f) ∙ c.loop-list.invariant

pub loop-list-preserved : goal.loop-list-preserved
loop-list-preserved c =
    let e : head (get_or c.args.rest.now c.loop-list.list-index c.list-item.result) ≡ Some c.in-Some.space = ap head (sym c.list-item.is) ∙ sym c.in-Some.ensures in
    let r : c.in-Some.space.0 < length c.args.counts.now = c.requires.room c.in-Some.space (among_at c.args.rest.now c.loop-list.list-index c.list-item.result c.in-Some.space c.loop-list-test.true (head_has _ c.in-Some.space e)) in
    let t : slice_index c.args.counts.now c.in-Some.space.0 ≡ times c.args.rest.now c.in-Some.space = c.requires.right c.in-Some.space r in
    let p : 0 < times c.args.rest.now c.in-Some.space = elim (zero_or (times c.args.rest.now c.in-Some.space)) [ inl z ↦ absurd (c.if-counts-space-eq0.false (t ∙ z)) | inr q ↦ q ] in
    let f : in_tail c.args.rest.now c.in-Some.space ≡ true = in_tail_some c.args.rest.now c.in-Some.space p in
    sym (next_passed c.args.rest.now c.args.rest.now c.loop-list.list-index c.list-item.result c.in-Some.space c.loop-list-test.true e f) ∙ c.loop-list.invariant

pub loop-list-preserved-in_default : goal.loop-list-preserved-in_default
loop-list-preserved-in_default c =
    let e : head (get_or c.args.rest.now c.loop-list.list-index c.list-item.result) ≡ None = ap head (sym c.list-item.is) ∙ sym c.head.ensures ∙ c.in_default.is in
    sym (next_empty c.args.rest.now c.args.rest.now c.loop-list.list-index c.list-item.result c.loop-list-test.true e) ∙ c.loop-list.invariant
