use Rattle.std.proofs.Common.{◌∙◌, ap, ◌*ℤ◌, subst, sym, IfOk, FitsSigned, to_z-of_z}
use Rattle.std.specs.Int.{w128}
use Rattle.mx_value.specs.Rounding.{IsHalfEven, half_even}
use Rattle.mx_value.specs.Fixed.{one, checked, fixed_mul}
use Rattle.mx_value.proofs.FixedLaws.{product-back, mul-rounded}
use Rattle.mx_value.proofs.fixed.Fixed.mul.Goals as goal

pub returns-clause-value : goal.returns-clause-value
unfolding fixed_mul
returns-clause-value c =
    let f : FitsSigned w128 c.div_half_even.result = record { sfits = c.div_half_even.type_inv } in
    (simp to_z-of_z at c.in_range.ensures) ∙ ap checked (c.div_half_even.ensures.value
    ∙ ap (λ n. half_even n one) (product-back c.self.inside.raw c.other.inside.raw c.self.invariant c.other.invariant))
    ∙ (λ i. checked (half_even (c.self.view_is i *ℤ c.other.view_is i) one))

pub returns-clause-rounded : goal.returns-clause-rounded
returns-clause-rounded c = rw (returns-clause-value c) (mul-rounded c.args.self c.args.other)
