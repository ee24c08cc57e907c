use Rattle.std.proofs.Common.{◌<◌, ◌≤◌, unsigned_abs, refl, arith, to_z-of_z, FitsSigned}
use Rattle.std.specs.Int.{w64}
use Rattle.mx_ops.proofs.Fits.{fitted}
use Rattle.mx_ops.proofs.Powers.{power-misses, power-repeats}
use Rattle.mx_ops.proofs.whole.long_power.Goals as goal

pub returns-then-unsigned_abs-gt1 : goal.returns-then-unsigned_abs-gt1
returns-then-unsigned_abs-gt1 c =
    let f : FitsSigned w64 c.args.a = c.ranges.a in
    let size = simp to_z-of_z at c.unsigned_abs.ensures.value in
    let more : 1 < unsigned_abs c.args.a = omega (arith, size) in
    rw (power-misses c.args.a c.args.n more c.requires) refl

pub returns : goal.returns
returns c =
    let f : FitsSigned w64 c.args.a = c.ranges.a in
    let size = simp to_z-of_z at c.unsigned_abs.ensures.value in
    let less : unsigned_abs c.args.a ≤ 1 = omega (arith, size) in
    let power = simp to_z-of_z at c.checked_pow.ensures in
    rw (power-repeats c.args.a c.args.n less c.requires) (fitted c.checked_pow.result _ power)
