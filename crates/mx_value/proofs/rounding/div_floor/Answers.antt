use Rattle.std.proofs.Common.{◌≡◌, ◌∙◌, ap, subst, sym, FitsSigned, to_z-of_z}
use Rattle.std.specs.Int.{w128, int_div_euclid}
use Rattle.mx_value.proofs.WideNumbers.{negated, is_above, is_below}
use Rattle.mx_value.specs.Rounding.{IsFloor, floor_of}
use Rattle.mx_value.proofs.RoundingLaws.{floor-is, floor-above, floor-below, floor-small}
use Rattle.mx_value.proofs.rounding.div_floor.Goals as goal

pub returns-then-divisor-gt0-clause-value : goal.returns-then-divisor-gt0-clause-value
returns-then-divisor-gt0-clause-value c =
    let f = c.ranges.dividend in
    let g = c.ranges.divisor in
    let h : FitsSigned w128 c.div_euclid.result = record { sfits = c.div_euclid.type_inv } in
    simp to_z-of_z ((simp to_z-of_z at c.div_euclid.ensures) ∙ floor-above c.args.dividend c.args.divisor (is_above c.args.divisor g c.if-divisor-gt0.true))

pub returns-then-divisor-gt0-clause-greatest : goal.returns-then-divisor-gt0-clause-greatest
returns-then-divisor-gt0-clause-greatest c = subst (λ q. IsFloor c.args.dividend c.args.divisor q) (sym (returns-then-divisor-gt0-clause-value c)) (floor-is c.args.dividend c.args.divisor c.requires.nonzero)

pub returns-else-divisor-gt0-clause-value : goal.returns-else-divisor-gt0-clause-value
returns-else-divisor-gt0-clause-value c =
    let h : FitsSigned w128 c.div_euclid-else-divisor-gt0.result = record { sfits = c.div_euclid-else-divisor-gt0.type_inv } in
    let e = rw (negated c.args.dividend c.requires.dividend_fits, negated c.args.divisor c.requires.divisor_fits) at c.div_euclid-else-divisor-gt0.ensures in
    simp to_z-of_z (e ∙ floor-below c.args.dividend c.args.divisor (is_below c.args.divisor c.ranges.divisor c.requires.nonzero c.if-divisor-gt0.false))

pub returns-else-divisor-gt0-clause-greatest : goal.returns-else-divisor-gt0-clause-greatest
returns-else-divisor-gt0-clause-greatest c = subst (λ q. IsFloor c.args.dividend c.args.divisor q) (sym (returns-else-divisor-gt0-clause-value c)) (floor-is c.args.dividend c.args.divisor c.requires.nonzero)

pub returns-then-divisor-gt0-clause-small : goal.returns-then-divisor-gt0-clause-small
returns-then-divisor-gt0-clause-small c =
    rw (returns-then-divisor-gt0-clause-value c) (floor-small c.args.dividend c.args.divisor)

pub returns-else-divisor-gt0-clause-small : goal.returns-else-divisor-gt0-clause-small
returns-else-divisor-gt0-clause-small c =
    rw (returns-else-divisor-gt0-clause-value c) (floor-small c.args.dividend c.args.divisor)
