use Rattle.std.proofs.Common.{◌≡◌, ◌∙◌, ap, ◌<◌, ◌^◌, arith, neg_ℤ, unsigned_abs, FitsSigned, to_z-of_z}
use Rattle.std.proofs.lemmas.Int.{ints}
use Rattle.std.specs.Int.{w128, int_rem_euclid}
use Rattle.mx_value.proofs.RoundingLaws.{rest-above, rest-below}
use Rattle.mx_value.proofs.WideNumbers.{negated, is_above, is_below}
use Rattle.mx_value.proofs.rounding.mod_floor.Goals as goal

pub returns-then-divisor-gt0-clause-value : goal.returns-then-divisor-gt0-clause-value
returns-then-divisor-gt0-clause-value c =
    let f = c.ranges.dividend in
    let g = c.ranges.divisor in
    let h : FitsSigned w128 c.rem_euclid.result = record { sfits = c.rem_euclid.type_inv } in
    simp to_z-of_z ((simp to_z-of_z at c.rem_euclid.ensures.value) ∙ rest-above c.args.dividend c.args.divisor (is_above c.args.divisor g c.if-divisor-gt0.true))

pub returns-else-divisor-gt0-clause-value : goal.returns-else-divisor-gt0-clause-value
returns-else-divisor-gt0-clause-value c =
    let e = rw (negated c.args.dividend c.requires.dividend_fits, negated c.args.divisor c.requires.divisor_fits) at c.rem_euclid-else-divisor-gt0.ensures.value in
    let small : unsigned_abs c.rem_euclid-else-divisor-gt0.result < 2 ^ 127 = omega (arith, ints) in
    negated c.rem_euclid-else-divisor-gt0.result small
    ∙ ap neg_ℤ e ∙ rest-below c.args.dividend c.args.divisor (is_below c.args.divisor c.ranges.divisor c.requires.nonzero c.if-divisor-gt0.false)
