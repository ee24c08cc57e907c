use Rattle.std.proofs.Common.{◌-◌, ◌+◌, ◌≤◌, length}
use Rattle.mx_paths.specs.Walking.{IsWalkedTo}
use Rattle.mx_paths.proofs.table.Paths.build.Given as goal

abbrev pub invariant-loop-place : goal.invariant-loop-place
invariant-loop-place l = record {
  walked : IsWalkedTo l.text l.paths l.place;
  near : l.place ≤ length l.paths + 1;
}

abbrev pub decreases-loop-place : goal.decreases-loop-place
decreases-loop-place l = 20001 - l.place
