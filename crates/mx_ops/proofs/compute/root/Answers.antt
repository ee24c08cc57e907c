use Rattle.std.proofs.Common.{FitsSigned, to_z-of_z}
use Rattle.std.specs.Int.{w64}
use Rattle.mx_ops.proofs.Roots.{root-misses}
use Rattle.mx_ops.proofs.compute.root.Goals as goal

pub returns-in-Err : goal.returns-in-Err
returns-in-Err c =
    let f : FitsSigned w64 c.args.degree = c.ranges.degree in
    root-misses c.args.x c.args.degree (simp to_z-of_z at c.in-Err.ensures)
