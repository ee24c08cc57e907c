use Rattle.std.proofs.Common.{take}
use Rattle.std.specs.List.{AllByRecursion}
use Rattle.mx_project.specs.Writing.{IsShort}
use Rattle.mx_project.proofs.project.first_too_big.Given as goal

abbrev pub invariant-loop-file : goal.invariant-loop-file
invariant-loop-file l = AllByRecursion IsShort (take l.file-index l.all)
