use Rattle.std.proofs.Common.{◌≡◌, ◌++◌, take, drop}
use Rattle.mx_c3.specs.Counts.{IsCounted}
use Rattle.mx_c3.specs.Taking.{drop_heads}
use Rattle.mx_c3.proofs.merge.take.Given as goal

abbrev pub invariant-loop-i : goal.invariant-loop-i
invariant-loop-i l = record {
  removed : l.rest ≡ drop_heads l.space (take l.i l.initial.rest) ++ drop l.i l.initial.rest;
  counted : IsCounted l.rest l.counts;
}
