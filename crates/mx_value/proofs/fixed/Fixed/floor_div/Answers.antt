use Rattle.std.proofs.Common.{◌≤◌, ◌∙◌, ap, ◌*ℤ◌, unsigned_abs, arith}
use Rattle.std.specs.Int.{w128}
use Rattle.mx_value.specs.Rounding.{floor_of}
use Rattle.mx_value.specs.Fixed.{one, checked, IsInRange}
use Rattle.mx_value.proofs.FixedLaws.{raw-back, scaled-back, zero-from_bits, nonzero-from_bits, floor_div-at_zero, floor_div-past_zero, floor_div-floor}
use Rattle.mx_value.proofs.fixed.Fixed.floor_div.Goals as goal

pub returns-then-other-eq0-clause-value : goal.returns-then-other-eq0-clause-value
returns-then-other-eq0-clause-value c =
    floor_div-at_zero c.args.self c.args.other (zero-from_bits c.other.inside.raw c.args.other c.other.invariant c.other.view_is c.if-other-eq0.true)

pub returns-clause-value : goal.returns-clause-value
returns-clause-value c =
    let x = raw-back c.self.inside.raw c.self.invariant in
    let smaller : unsigned_abs c.div_floor.result ≤ unsigned_abs c.self.inside.raw = rw x at c.div_floor.ensures.small in
    let range : IsInRange c.self.inside.raw = c.self.invariant in
    let small : IsInRange c.div_floor.result = omega (arith, smaller, range) in
    c.in_range.ensures ∙ ap checked (scaled-back c.div_floor.result small
    ∙ ap (λ q. q *ℤ one) (c.div_floor.ensures.value
    ∙ (λ i. floor_of (x i) (raw-back c.other.inside.raw c.other.invariant i))))
    ∙ (λ i. checked (floor_of (c.self.view_is i) (c.other.view_is i) *ℤ one))
    ∙ floor_div-past_zero c.args.self c.args.other (nonzero-from_bits c.other.inside.raw c.args.other c.other.view_is c.if-other-eq0.false)

pub returns-clause-floor : goal.returns-clause-floor
returns-clause-floor c = rw (returns-clause-value c) (floor_div-floor c.args.self c.args.other)
