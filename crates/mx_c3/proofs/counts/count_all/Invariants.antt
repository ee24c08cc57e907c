use Rattle.std.proofs.Common.{take}
use Rattle.mx_c3.specs.Counts.{CountsMore}
use Rattle.mx_c3.proofs.counts.count_all.Given as goal

abbrev pub invariant-loop-space : goal.invariant-loop-space
invariant-loop-space l = CountsMore l.initial.counts (take l.space-index l.spaces) l.counts
