use Rattle.std.proofs.Common.{◌∙◌, ap, ◌*ℤ◌, FitsSigned, to_z-of_z}
use Rattle.std.specs.Int.{w128}
use Rattle.mx_value.specs.Rounding.{half_even}
use Rattle.mx_value.specs.Fixed.{one, checked}
use Rattle.mx_value.proofs.FixedLaws.{raw-back, scaled-back, zero-from_bits, nonzero-from_bits, div-at_zero, div-past_zero, div-rounded}
use Rattle.mx_value.proofs.fixed.Fixed.div.Goals as goal

pub returns-then-other-eq0-clause-value : goal.returns-then-other-eq0-clause-value
returns-then-other-eq0-clause-value c =
    div-at_zero c.args.self c.args.other (zero-from_bits c.other.inside.raw c.args.other c.other.invariant c.other.view_is c.if-other-eq0.true)

pub returns-clause-value : goal.returns-clause-value
returns-clause-value c =
    let f : FitsSigned w128 c.div_half_even.result = record { sfits = c.div_half_even.type_inv } in
    (simp to_z-of_z at c.in_range.ensures) ∙ ap checked (c.div_half_even.ensures.value
    ∙ (λ i. half_even (scaled-back c.self.inside.raw c.self.invariant i) (raw-back c.other.inside.raw c.other.invariant i)))
    ∙ (λ i. checked (half_even (c.self.view_is i *ℤ one) (c.other.view_is i)))
    ∙ div-past_zero c.args.self c.args.other (nonzero-from_bits c.other.inside.raw c.args.other c.other.view_is c.if-other-eq0.false)

pub returns-clause-rounded : goal.returns-clause-rounded
returns-clause-rounded c = rw (returns-clause-value c) (div-rounded c.args.self c.args.other)
