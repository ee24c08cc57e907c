use Rattle.std.proofs.Common.{drop, reverse}
use Rattle.mx_code.proofs.Packing.{Packed}
use Rattle.mx_code.proofs.compile.packed.Given as goal

abbrev pub invariant-loop-i : goal.invariant-loop-i
invariant-loop-i l = Packed l.constants l.names l.instructions l.lines (reverse (drop l.i l.code))
