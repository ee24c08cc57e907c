use Rattle.std.proofs.Common.{◌≡◌, ◌+◌, ◌<◌, take, get_or, slice_index, slice_set, length, sym, subst, arith}
use Rattle.std.proofs.lemmas.List.{take_all, take_more}
use Rattle.mx_c3.specs.declared.space.SpaceId.{SpaceId}
use Rattle.mx_c3.specs.Counts.{count, CountsMore}
use Rattle.mx_c3.proofs.ListLemmas.{has_at}
use Rattle.mx_c3.proofs.CountLemmas.{more_push, count_before}
use Rattle.mx_c3.proofs.counts.count_all.Goals as goal

pub bounds-counts-space : goal.bounds-counts-space
bounds-counts-space c =
    let y : SpaceId = get_or c.args.spaces.now c.loop-space.space-index (record { 0 = 0 }) in
    let r : y.0 < length c.args.counts.now = c.requires.room y (has_at c.args.spaces.now c.loop-space.space-index (record { 0 = 0 }) c.loop-space-test.true) in
    omega (arith, r, c.loop-space.invariant.0)

pub bounds-counts-space-in-loop-space : goal.bounds-counts-space-in-loop-space
bounds-counts-space-in-loop-space c =
    let y : SpaceId = get_or c.args.spaces.now c.loop-space.space-index (record { 0 = 0 }) in
    let r : y.0 < length c.args.counts.now = c.requires.room y (has_at c.args.spaces.now c.loop-space.space-index (record { 0 = 0 }) c.loop-space-test.true) in
    omega (arith, r, c.loop-space.invariant.0)

pub overflow_add-counts : goal.overflow_add-counts
overflow_add-counts c =
    let y : SpaceId = get_or c.args.spaces.now c.loop-space.space-index (record { 0 = 0 }) in
    let r : y.0 < length c.args.counts.now = c.requires.room y (has_at c.args.spaces.now c.loop-space.space-index (record { 0 = 0 }) c.loop-space-test.true) in
    let m : slice_index c.loop-space.counts y.0 ≡ slice_index c.args.counts.now y.0 + count (take c.loop-space.space-index c.args.spaces.now) y = c.loop-space.invariant.1 y r in
    omega (arith, m, c.requires.below y r, count_before c.args.spaces.now c.loop-space.space-index (record { 0 = 0 }) c.requires.distinct c.loop-space-test.true)

pub loop-space-preserved : goal.loop-space-preserved
loop-space-preserved c =
    let y : SpaceId = get_or c.args.spaces.now c.loop-space.space-index (record { 0 = 0 }) in
    let r : y.0 < length c.args.counts.now = c.requires.room y (has_at c.args.spaces.now c.loop-space.space-index (record { 0 = 0 }) c.loop-space-test.true) in
    subst (λ ys. CountsMore c.args.counts.now ys (slice_set c.loop-space.counts y.0 (slice_index c.loop-space.counts y.0 + 1))) (sym (take_more c.args.spaces.now c.loop-space.space-index (record { 0 = 0 }) c.loop-space-test.true))
    (more_push c.args.counts.now c.loop-space.counts (take c.loop-space.space-index c.args.spaces.now) y c.loop-space.invariant r)

pub returns : goal.returns
returns c = subst (λ xs. CountsMore c.args.counts.now xs c.loop-space.counts) (take_all c.loop-space.space-index c.args.spaces.now c.loop-space-test.false) c.loop-space.invariant
