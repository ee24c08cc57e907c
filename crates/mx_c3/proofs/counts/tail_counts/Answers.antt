use Rattle.std.proofs.Common.{◌<◌, ◌≤◌, ◌+◌, ◌-◌, ◌^◌, drop, sym, ◌∙◌, subst, length, get_or, take, slice_index, arith}
use Rattle.mx_c3.specs.Lists.{Has, Distinct}
use Rattle.mx_c3.specs.Merge.{tail}
use Rattle.mx_c3.specs.Counts.{CountsFirst, CountsMore}
use Rattle.mx_c3.proofs.ListLemmas.{all_distinct_at, among_at}
use Rattle.mx_c3.proofs.CountLemmas.{written, counts_few, counts_more}
use Rattle.mx_c3.proofs.counts.tail_counts.Goals as goal

pub loop-list-init : goal.loop-list-init
loop-list-init c = record {
  room = λ x m. let l : x.0 < c.bound_of_all.result = c.bound_of_all.ensures x m in omega (arith, c.in_ok-counts.ensures.long);
  right = λ x l. c.in_ok-counts.ensures.zeros x.0;
}

pub count_tail-requires-clause-distinct : goal.count_tail-requires-clause-distinct
count_tail-requires-clause-distinct c =
    subst (λ xs. Distinct xs) (sym (c.as_slice.ensures ∙ c.list-item.is)) (all_distinct_at c.args.lists.now c.loop-list.list-index c.list-item.result c.requires c.loop-list-test.true)

pub count_tail-requires-clause-room : goal.count_tail-requires-clause-room
count_tail-requires-clause-room c = λ x h.
    let m = among_at c.args.lists.now c.loop-list.list-index c.list-item.result x c.loop-list-test.true (subst (λ xs. Has xs x) (c.as_slice.ensures ∙ c.list-item.is) h) in
    let r : x.0 < length c.loop-list.counts.items = c.loop-list.invariant.room x m in
    omega (arith, c.deref_mut.ensures.len)

pub count_tail-requires-clause-below : goal.count_tail-requires-clause-below
count_tail-requires-clause-below c = λ x h.
    let l : x.0 < length c.loop-list.counts.items = omega (arith, c.deref_mut.ensures.len) in
    let f : slice_index c.loop-list.counts.items x.0 ≤ c.loop-list.list-index = counts_few c.args.lists.now c.loop-list.list-index c.loop-list.counts.items x c.requires c.loop-list-test.true c.loop-list.invariant l in
    subst (λ counts. slice_index counts x.0 < 2 ^ 64 - 1) (sym c.deref_mut.ensures.value) (let i : c.loop-list.list-index < length c.args.lists.now = c.loop-list-test.true in omega arith)

pub loop-list-preserved : goal.loop-list-preserved
loop-list-preserved c =
    let m : CountsMore c.deref_mut.result.now (tail c.as_slice.result.now) c.count_tail.new.counts = c.count_tail.ensures in
    let n : CountsMore c.loop-list.counts.items (tail (get_or c.args.lists.now c.loop-list.list-index c.list-item.result)) c.count_tail.new.counts =
    subst (λ xs. CountsMore c.loop-list.counts.items (tail xs) c.count_tail.new.counts) (c.as_slice.ensures ∙ c.list-item.is)
    (subst (λ counts. CountsMore counts (tail c.as_slice.result.now) c.count_tail.new.counts) c.deref_mut.ensures.value m) in
    subst (λ counts. CountsFirst c.args.lists.now (take (c.loop-list.list-index + 1) c.args.lists.now) counts)
    (sym (written c.loop-list.counts.len c.count_tail.new.counts (drop (length c.count_tail.new.counts) c.loop-list.counts.items) (omega (arith, n.0))))
    (counts_more c.args.lists.now c.loop-list.list-index c.list-item.result c.loop-list.counts.items c.count_tail.new.counts c.loop-list-test.true c.loop-list.invariant n)
