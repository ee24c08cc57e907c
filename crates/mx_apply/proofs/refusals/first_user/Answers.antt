use Rattle.std.proofs.Common.{◌∙◌, sym, Some, ap}
use Rattle.mx_model.specs.Records.{Path, SpaceRecord}
use Rattle.mx_model.specs.Refused.{uses}
use Rattle.mx_apply.proofs.ValueLemmas.{user_passed, user_found}
use Rattle.mx_apply.proofs.refusals.first_user.Goals as goal

pub returns-then-uses : goal.returns-then-uses
returns-then-uses c =
    let s = c.in-Some.space.now in
    let so = sym (c.uses.ensures ∙ ap (uses c.args.removed.now) c.get-in-loop-place.ensures) ∙ c.if-uses.true in
    ap (λ (p : Path). Some p) (c.path.ensures ∙ ap (λ (z : SpaceRecord). z.path) c.get-then-uses.ensures) ∙
    sym (c.loop-place.invariant ∙ user_found c.args.removed.now c.args.spaces.now c.loop-place.place s (sym c.in-Some.ensures) so)

pub loop-place-preserved : goal.loop-place-preserved
loop-place-preserved c =
    let s = c.in-Some.space.now in
    let other = sym (c.uses.ensures ∙ ap (uses c.args.removed.now) c.get-in-loop-place.ensures) ∙ c.if-uses.false in
    c.loop-place.invariant ∙ user_passed c.args.removed.now c.args.spaces.now c.loop-place.place s (sym c.in-Some.ensures) other
