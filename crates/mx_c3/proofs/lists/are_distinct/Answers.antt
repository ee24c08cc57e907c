use Rattle.std.proofs.Common.{◌≡◌, true, false, get_or, take, sym, ◌∙◌}
use Rattle.mx_c3.specs.declared.space.SpaceId.{SpaceId}
use Rattle.mx_c3.specs.Merge.{stands}
use Rattle.mx_c3.proofs.NextLaws.{stands_has, has_stands}
use Rattle.mx_c3.proofs.InOrderLemmas.{distinct_more, distinct_not}
use Rattle.mx_c3.proofs.lists.are_distinct.Goals as goal

pub returns-then-contains : goal.returns-then-contains
returns-then-contains c = (
  λ t. absurd cc,
  λ d.
      let y : SpaceId = get_or c.args.spaces.now c.loop-place.place (record { 0 = 0 }) in
      let e : stands (take c.loop-place.place c.args.spaces.now) y ≡ true = sym c.contains.ensures.value ∙ c.if-contains.true in
      absurd (distinct_not c.args.spaces.now c.loop-place.place (record { 0 = 0 }) c.loop-place-test.true (stands_has (take c.loop-place.place c.args.spaces.now) y e) d),
)

pub loop-place-preserved : goal.loop-place-preserved
loop-place-preserved c =
    let y : SpaceId = get_or c.args.spaces.now c.loop-place.place (record { 0 = 0 }) in
    let e : stands (take c.loop-place.place c.args.spaces.now) y ≡ false = sym c.contains.ensures.value ∙ c.if-contains.false in
    distinct_more c.args.spaces.now c.loop-place.place (record { 0 = 0 }) c.loop-place-test.true c.loop-place.invariant (λ h. let t : stands (take c.loop-place.place c.args.spaces.now) y ≡ true = has_stands (take c.loop-place.place c.args.spaces.now) y h in cc)
