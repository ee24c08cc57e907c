use Rattle.std.proofs.Common.{◌∙◌, FitsSigned, to_z-of_z, ap}
use Rattle.std.specs.Int.{w64, w128}
use Rattle.std.proofs.lemmas.Int.{fits_signed_from_abs}
use Rattle.mx_value.specs.Fixed.{one}
use Rattle.mx_value.specs.Rounding.{half_even, IsHalfEven}
use Rattle.mx_ops.proofs.Nearest.{nearest-small}
use Rattle.mx_ops.proofs.compute.nearest.Goals as goal

pub overflow_cast-result : goal.overflow_cast-result
overflow_cast-result c =
    let wx : FitsSigned w128 c.raw.result = record { sfits = c.raw.type_inv } in
    let wr : FitsSigned w128 c.div_half_even.result = record { sfits = c.div_half_even.type_inv } in
    let near : IsHalfEven c.raw.result one c.div_half_even.result = simp to_z-of_z at c.div_half_even.ensures.nearest in
    simp to_z-of_z (fits_signed_from_abs w64 c.div_half_even.result (nearest-small c.raw.result c.div_half_even.result c.raw.ensures.in_range near))

pub returns : goal.returns
returns c =
    let wx : FitsSigned w128 c.raw.result = record { sfits = c.raw.type_inv } in
    let wr : FitsSigned w128 c.div_half_even.result = record { sfits = c.div_half_even.type_inv } in
    let near : IsHalfEven c.raw.result one c.div_half_even.result = simp to_z-of_z at c.div_half_even.ensures.nearest in
    let small : FitsSigned w64 c.div_half_even.result = fits_signed_from_abs w64 c.div_half_even.result (nearest-small c.raw.result c.div_half_even.result c.raw.ensures.in_range near) in
    let value = simp to_z-of_z at c.div_half_even.ensures.value in
    simp to_z-of_z (value ∙ ap (λ x. half_even x one) c.raw.ensures.value)
