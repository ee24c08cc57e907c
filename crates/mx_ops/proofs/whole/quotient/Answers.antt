use Rattle.std.proofs.Common.{◌≡◌, ◌≢◌, ◌∙◌, ◌^◌, ◌*ℤ◌, pos, ap, arith, FitsSigned, to_z-of_z, lit≤, lit<}
use Rattle.std.specs.Int.{w64, w128}
use Rattle.std.proofs.lemmas.Int.{ints, fits_signed_from_abs, fits_signed_mul}
use Rattle.mx_value.specs.Fixed.{one, checked}
use Rattle.mx_ops.proofs.Quotients.{by_zero, in_range_or, past_zero}
use Rattle.mx_ops.proofs.whole.quotient.Goals as goal

pub returns-then-b-eq0 : goal.returns-then-b-eq0
returns-then-b-eq0 c = by_zero c.args.a c.args.b (omega (arith, ints))

pub returns : goal.returns
returns c =
    let fa : FitsSigned w64 c.args.a = c.ranges.a in
    let fb : FitsSigned w64 c.args.b = c.ranges.b in
    let ea : c.from.result ≡ c.args.a = simp to_z-of_z at c.from.ensures in
    let eb : c.from-2.result ≡ c.args.b = simp to_z-of_z at c.from-2.ensures in
    let wa : FitsSigned w128 c.args.a = fits_signed_from_abs w128 c.args.a (omega (arith, ints)) in
    let wb : FitsSigned w128 c.args.b = fits_signed_from_abs w128 c.args.b (omega (arith, ints)) in
    let wm : FitsSigned w128 (c.args.a *ℤ one) = fits_signed_mul w128 c.args.a one (2 ^ 63) (10 ^ 9) (omega (arith, ints)) (lit≤ tt) (lit< tt) in
    let wr : FitsSigned w128 c.div_half_even.result = record { sfits = c.div_half_even.type_inv } in
    let value = simp to_z-of_z at (rw (ea, eb) at c.div_half_even.ensures.value) in
    let there = simp to_z-of_z at c.from_raw.ensures in
    let b : c.args.b ≢ pos 0 = omega (arith, ints) in
    c.ok_or.ensures.value ∙ in_range_or c.from_raw.result c.div_half_even.result there ∙ ap checked value ∙ past_zero c.args.a c.args.b b
