use Rattle.std.proofs.Common.{◌≡◌, ◌<◌, ◌^◌, ◌∙◌, ap, arith, pos, neg_ℤ, unsigned_abs, to_z, subst, sym, to_z-of_z}
use Rattle.std.specs.Int.{w128}
use Rattle.mx_value.specs.Rounding.{IsHalfEven, half_even}
use Rattle.mx_value.proofs.RoundingLaws.{half_even-is, half_even-like, half_even-unlike}
use Rattle.mx_value.proofs.WideNumbers.{negated, back}
use Rattle.std.proofs.lemmas.Int.{to_z_pos}
use Rattle.mx_value.proofs.rounding.div_half_even.Goals as goal

pub returns-then-dividend-divisor-clause-value : goal.returns-then-dividend-divisor-clause-value
returns-then-dividend-divisor-clause-value c =
    let f = c.ranges.dividend in
    let g = c.ranges.divisor in
    let m = c.div_nearest-magnitude.result in
    let a = simp to_z-of_z at c.unsigned_abs.ensures.value in
    let b = simp to_z-of_z at c.unsigned_abs-2.ensures.value in
    let small : m < 2 ^ 127 = omega arith in
    let e = rw (a, b) at c.div_nearest-magnitude.ensures.value in
    to_z_pos w128 m small ∙ ap pos e ∙ half_even-like c.args.dividend c.args.divisor (simp to_z-of_z at c.if-dividend-divisor.true)

pub returns-then-dividend-divisor-clause-nearest :
    goal.returns-then-dividend-divisor-clause-nearest
returns-then-dividend-divisor-clause-nearest c = subst (λ q. IsHalfEven c.args.dividend c.args.divisor q) (sym (returns-then-dividend-divisor-clause-value c)) (half_even-is c.args.dividend c.args.divisor c.requires.nonzero)

pub returns-else-dividend-divisor-clause-value : goal.returns-else-dividend-divisor-clause-value
returns-else-dividend-divisor-clause-value c =
    let f = c.ranges.dividend in
    let g = c.ranges.divisor in
    let m = c.div_nearest-magnitude.result in
    let a = simp to_z-of_z at c.unsigned_abs.ensures.value in
    let b = simp to_z-of_z at c.unsigned_abs-2.ensures.value in
    let small : m < 2 ^ 127 = omega arith in
    let e = rw (a, b) at c.div_nearest-magnitude.ensures.value in
    negated (pos m) small ∙ ap (λ k. neg_ℤ (pos k)) e ∙ half_even-unlike c.args.dividend c.args.divisor (simp to_z-of_z at c.if-dividend-divisor.false)

pub returns-else-dividend-divisor-clause-nearest :
    goal.returns-else-dividend-divisor-clause-nearest
returns-else-dividend-divisor-clause-nearest c = subst (λ q. IsHalfEven c.args.dividend c.args.divisor q) (sym (returns-else-dividend-divisor-clause-value c)) (half_even-is c.args.dividend c.args.divisor c.requires.nonzero)
