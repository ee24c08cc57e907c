use Rattle.std.proofs.Common.{◌≡◌, ◌<◌, ◌≤◌, ◌<ℤ◌, ◌≤ℤ◌, ℤ, pos, unsigned_abs, arith, ap, ◌∙◌, sym, to_z-of_z}
use Rattle.std.proofs.lemmas.Int.{ints}
use Rattle.std.proofs.lemmas.Result.{err_from_is_err_and}
use Rattle.mx_value.specs.Fixed.{power_of}
use Rattle.mx_value.proofs.PowerLaws.{pow-domain, pow-positive, pow-negative, pow-fails}
use Rattle.mx_value.proofs.fixed.Fixed.pow.Goals as goal

pub returns-then-count-gt-MOST_FACTORS : goal.returns-then-count-gt-MOST_FACTORS
returns-then-count-gt-MOST_FACTORS c =
    let f = c.ranges.n in
    let e = simp to_z-of_z at c.unsigned_abs-count.ensures.value in
    pow-domain c.args.self c.args.n (omega (arith, e, c.if-count-gt-MOST_FACTORS.true))

pub returns-in_err-power : goal.returns-in_err-power
returns-in_err-power c =
    let f = c.ranges.n in
    let e = simp to_z-of_z at c.unsigned_abs-count.ensures.value in
    let p = err_from_is_err_and c.from_residual.result c.from_residual.ensures.1 in
    rw (p.1, p.2) (pow-fails c.args.self c.args.n c.in_err-power.field-0.0 (omega (arith, e, c.if-count-gt-MOST_FACTORS.false)) (c.in_err-power.ensures ∙ ap (power_of c.args.self) e))

pub returns-then-n-lt0 : goal.returns-then-n-lt0
returns-then-n-lt0 c =
    let f = c.ranges.n in
    let e = simp to_z-of_z at c.unsigned_abs-count.ensures.value in
    let below : c.args.n <ℤ pos 0 = omega (arith, ints) in
    c.div.ensures.value ∙ pow-negative c.args.self c.args.n c.in_ok-power.power (omega (arith, e, c.if-count-gt-MOST_FACTORS.false)) below (sym (c.in_ok-power.ensures ∙ ap (power_of c.args.self) e))

pub returns : goal.returns
returns c =
    let f = c.ranges.n in
    let e = simp to_z-of_z at c.unsigned_abs-count.ensures.value in
    let above : pos 0 ≤ℤ c.args.n = omega (arith, ints) in
    pow-positive c.args.self c.args.n _ (omega (arith, e, c.if-count-gt-MOST_FACTORS.false)) above (c.in_ok-power.ensures ∙ ap (power_of c.args.self) e)
