use Rattle.std.proofs.Common.{◌≡◌, ◌^◌, ◌+ℤ◌, ◌*ℤ◌, pos, FitsSigned, to_z, of_z, to_z-of_z, arith, lit<}
use Rattle.std.specs.Int.{w64, w128}
use Rattle.std.proofs.lemmas.Int.{ints, fits_signed_from_abs, fits_signed_mul}
use Rattle.mx_ops.proofs.range.number_at.Goals as goal

whole : (c : goal.After-from-2) → FitsSigned w128 (c.args.from +ℤ pos c.args.i *ℤ c.args.step)
whole c = let f : FitsSigned w64 (c.args.from +ℤ pos c.args.i *ℤ c.args.step) = c.requires.fits in fits_signed_from_abs w128 _ (omega (arith, ints))

narrow : (c : goal.After-from-2) → to_z w128 (of_z w128 (to_z w128 (of_z w128 c.from.result) +ℤ to_z w128 (of_z w128 (to_z w128 c.args.i *ℤ to_z w128 (of_z w128 c.from-2.result))))) ≡ c.args.from +ℤ pos c.args.i *ℤ c.args.step
narrow c =
    let fa : FitsSigned w64 c.args.from = c.ranges.from in
    let fb : FitsSigned w64 c.args.step = c.ranges.step in
    let ea : c.from.result ≡ c.args.from = simp to_z-of_z at c.from.ensures in
    let eb : c.from-2.result ≡ c.args.step = simp to_z-of_z at c.from-2.ensures in
    let ei : to_z w128 c.args.i ≡ pos c.args.i = omega (arith, ints) in
    let wa : FitsSigned w128 c.args.from = fits_signed_from_abs w128 c.args.from (omega (arith, ints)) in
    let wb : FitsSigned w128 c.args.step = fits_signed_from_abs w128 c.args.step (omega (arith, ints)) in
    let wm : FitsSigned w128 (pos c.args.i *ℤ c.args.step) = fits_signed_mul w128 (pos c.args.i) c.args.step 999_999 (2 ^ 63) (omega arith) (omega (arith, ints)) (lit< tt) in
    let ws = whole c in
    rw (ea, eb, ei) (simp to_z-of_z)

pub overflow_cast-result-2 : goal.overflow_cast-result-2
overflow_cast-result-2 c = rw (narrow c) c.requires.fits

pub returns : goal.returns
returns c =
    let f : FitsSigned w64 (c.args.from +ℤ pos c.args.i *ℤ c.args.step) = c.requires.fits in
    rw (narrow c) (to_z-of_z f)
