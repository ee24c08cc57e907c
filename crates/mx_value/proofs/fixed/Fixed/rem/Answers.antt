use Rattle.std.proofs.Common.{◌≡◌, ◌∙◌, ap, sym, subst, ℤ, ◌+ℤ◌, ◌*ℤ◌, Result, IfOk, Ok, FitsSigned, to_z-of_z}
use Rattle.std.specs.Int.{w128}
use Rattle.mx_value.specs.Rounding.{rest_of, IsFloor}
use Rattle.mx_value.specs.declared.fixed.NumFault.{NumFault}
use Rattle.mx_value.proofs.FixedLaws.{raw-back, zero-from_bits, nonzero-from_bits, rem-at_zero, rem-past_zero, rem-rest}
use Rattle.mx_value.proofs.fixed.Fixed.rem.Goals as goal

pub returns-then-other-eq0-clause-value : goal.returns-then-other-eq0-clause-value
returns-then-other-eq0-clause-value c =
    rem-at_zero c.args.self c.args.other (zero-from_bits c.other.inside.raw c.args.other c.other.invariant c.other.view_is c.if-other-eq0.true)

pub returns-clause-value : goal.returns-clause-value
returns-clause-value c =
    let f : FitsSigned w128 c.mod_floor.result = record { sfits = c.mod_floor.type_inv } in
    ap Ok (to_z-of_z f ∙ c.mod_floor.ensures.value
    ∙ (λ i. rest_of (raw-back c.self.inside.raw c.self.invariant i) (raw-back c.other.inside.raw c.other.invariant i))
    ∙ (λ i. rest_of (c.self.view_is i) (c.other.view_is i)))
    ∙ rem-past_zero c.args.self c.args.other (nonzero-from_bits c.other.inside.raw c.args.other c.other.view_is c.if-other-eq0.false)

pub returns-clause-rest : goal.returns-clause-rest
returns-clause-rest c =
    subst (λ (r : Result ℤ NumFault). IfOk r (λ z. (q : ℤ) × (c.args.self ≡ (q *ℤ c.args.other) +ℤ z) × IsFloor c.args.self c.args.other q)) (sym (returns-clause-value c)) (rem-rest c.args.self c.args.other)
