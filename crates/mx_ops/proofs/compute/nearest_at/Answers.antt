use Rattle.std.proofs.Common.{◌∙◌, ◌*ℤ◌, FitsSigned, to_z-of_z, sym, ap, arith}
use Rattle.std.specs.Int.{w128}
use Rattle.std.specs.Option.{SomeIff}
use Rattle.std.proofs.lemmas.Int.{ints, fits_signed_from_abs}
use Rattle.mx_value.specs.Fixed.{IsInRange}
use Rattle.mx_value.specs.Rounding.{half_even, IsHalfEven}
use Rattle.mx_ops.specs.Builtins.{place_value}
use Rattle.mx_ops.proofs.Nearest.{stays-in_range, range-fits, unit-small, unit-positive}
use Rattle.mx_ops.proofs.Options.{is_there, is_value}
use Rattle.mx_ops.proofs.compute.nearest_at.Goals as goal

pub pow-unit-requires : goal.pow-unit-requires
pow-unit-requires c = fits_signed_from_abs w128 (place_value c.args.places) (omega (arith, unit-small c.args.places))

pub div_half_even-requires-clause-nonzero : goal.div_half_even-requires-clause-nonzero
div_half_even-requires-clause-nonzero c =
    let wu : FitsSigned w128 c.pow-unit.result = record { sfits = c.pow-unit.type_inv } in
    simp to_z-of_z (λ e. absurd (omega (arith, ints, unit-positive c.args.places, sym c.pow-unit.ensures ∙ e)))

pub overflow_mul-div_half_even : goal.overflow_mul-div_half_even
overflow_mul-div_half_even c =
    let wx : FitsSigned w128 c.raw.result = record { sfits = c.raw.type_inv } in
    let wu : FitsSigned w128 c.pow-unit.result = record { sfits = c.pow-unit.type_inv } in
    let wr : FitsSigned w128 c.div_half_even.result = record { sfits = c.div_half_even.type_inv } in
    let half : IsHalfEven c.raw.result c.pow-unit.result c.div_half_even.result = simp to_z-of_z at c.div_half_even.ensures.nearest in
    let stays = stays-in_range c.raw.result c.div_half_even.result c.pow-unit.result c.args.places c.requires c.pow-unit.ensures c.raw.ensures.in_range half in
    simp to_z-of_z (range-fits (c.div_half_even.result *ℤ c.pow-unit.result) stays)

pub unwrap-requires : goal.unwrap-requires
unwrap-requires c =
    let wx : FitsSigned w128 c.raw.result = record { sfits = c.raw.type_inv } in
    let wu : FitsSigned w128 c.pow-unit.result = record { sfits = c.pow-unit.type_inv } in
    let wr : FitsSigned w128 c.div_half_even.result = record { sfits = c.div_half_even.type_inv } in
    let half : IsHalfEven c.raw.result c.pow-unit.result c.div_half_even.result = simp to_z-of_z at c.div_half_even.ensures.nearest in
    let stays = stays-in_range c.raw.result c.div_half_even.result c.pow-unit.result c.args.places c.requires c.pow-unit.ensures c.raw.ensures.in_range half in
    let wp : FitsSigned w128 (c.div_half_even.result *ℤ c.pow-unit.result) = range-fits _ stays in
    let given : SomeIff c.from_raw.result (IsInRange (c.div_half_even.result *ℤ c.pow-unit.result)) (c.div_half_even.result *ℤ c.pow-unit.result) = simp to_z-of_z at c.from_raw.ensures in
    is_there c.from_raw.result (IsInRange (c.div_half_even.result *ℤ c.pow-unit.result)) (c.div_half_even.result *ℤ c.pow-unit.result) given stays

pub returns : goal.returns
returns c =
    let wx : FitsSigned w128 c.raw.result = record { sfits = c.raw.type_inv } in
    let wu : FitsSigned w128 c.pow-unit.result = record { sfits = c.pow-unit.type_inv } in
    let wr : FitsSigned w128 c.div_half_even.result = record { sfits = c.div_half_even.type_inv } in
    let half : IsHalfEven c.raw.result c.pow-unit.result c.div_half_even.result = simp to_z-of_z at c.div_half_even.ensures.nearest in
    let stays = stays-in_range c.raw.result c.div_half_even.result c.pow-unit.result c.args.places c.requires c.pow-unit.ensures c.raw.ensures.in_range half in
    let wp : FitsSigned w128 (c.div_half_even.result *ℤ c.pow-unit.result) = range-fits _ stays in
    let given : SomeIff c.from_raw.result (IsInRange (c.div_half_even.result *ℤ c.pow-unit.result)) (c.div_half_even.result *ℤ c.pow-unit.result) = simp to_z-of_z at c.from_raw.ensures in
    let value = simp to_z-of_z at c.div_half_even.ensures.value in
    is_value c.from_raw.result (IsInRange (c.div_half_even.result *ℤ c.pow-unit.result)) (c.div_half_even.result *ℤ c.pow-unit.result) c.unwrap.result given c.unwrap.ensures
    ∙ ap (λ q. q *ℤ c.pow-unit.result) (value ∙ (λ i. half_even (c.raw.ensures.value i) (c.pow-unit.ensures i)))
    ∙ ap (λ u. half_even c.args.x (place_value c.args.places) *ℤ u) c.pow-unit.ensures
