use Rattle.std.proofs.Common.{◌≡◌, ◌∙◌, ◌*◌, ◌^◌, ◌≤◌, ℤ, pos, ◌*ℤ◌, ◌-ℤ◌, unsigned_abs, FitsSigned, to_z-of_z, ap, arith}
use Rattle.std.specs.Int.{w128}
use Rattle.std.proofs.lemmas.Int.{ints, fits_signed_from_abs}
use Rattle.mx_value.specs.Fixed.{IsInRange, checked}
use Rattle.mx_value.specs.Rounding.{half_even, IsHalfEven}
use Rattle.mx_plain.proofs.number.rounded.Goals as goal

near : (x z : ℤ) → unsigned_abs x ≤ 10 ^ 19 → unsigned_abs (x -ℤ z) ≤ unsigned_abs (x -ℤ pos 0) → unsigned_abs z ≤ 2 * 10 ^ 19
near x z h k = omega (arith, ints)

fits : (x q : ℤ) → IsInRange x → IsHalfEven x (pos 10000000) q → FitsSigned w128 (q *ℤ pos 10000000)
fits x q h e = fits_signed_from_abs w128 (q *ℤ pos 10000000) (omega (arith, near x (q *ℤ pos 10000000) h (e.nearest (pos 0))))

pub overflow_mul-div_half_even : goal.overflow_mul-div_half_even
overflow_mul-div_half_even c =
    let wx : FitsSigned w128 c.raw.result = record { sfits = c.raw.type_inv } in
    let wr : FitsSigned w128 c.div_half_even.result = record { sfits = c.div_half_even.type_inv } in
    let half : IsHalfEven c.raw.result (pos 10000000) c.div_half_even.result = simp to_z-of_z at c.div_half_even.ensures.nearest in
    rw (to_z-of_z wr) (fits c.raw.result c.div_half_even.result c.raw.ensures.in_range half)

pub returns : goal.returns
returns c =
    let wx : FitsSigned w128 c.raw.result = record { sfits = c.raw.type_inv } in
    let wr : FitsSigned w128 c.div_half_even.result = record { sfits = c.div_half_even.type_inv } in
    let half : IsHalfEven c.raw.result (pos 10000000) c.div_half_even.result = simp to_z-of_z at c.div_half_even.ensures.nearest in
    let wp : FitsSigned w128 (c.div_half_even.result *ℤ pos 10000000) = fits c.raw.result c.div_half_even.result c.raw.ensures.in_range half in
    let value : c.div_half_even.result ≡ half_even c.raw.result (pos 10000000) = simp to_z-of_z at c.div_half_even.ensures.value in
    let said : c.in_range.result ≡ checked (c.div_half_even.result *ℤ pos 10000000) = simp to_z-of_z at c.in_range.ensures in
    said ∙ ap (λ (q : ℤ). checked (q *ℤ pos 10000000)) (value ∙ ap (λ (x : ℤ). half_even x (pos 10000000)) c.raw.ensures.value)
