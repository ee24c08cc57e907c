use Rattle.std.proofs.Common.{◌-◌}
use Rattle.mx_paths.specs.Sorting.{IsBetween}
use Rattle.mx_paths.proofs.families.place_of.Given as goal

abbrev pub invariant-loop-low : goal.invariant-loop-low
invariant-loop-low l = IsBetween l.children l.name l.low l.high

abbrev pub decreases-loop-low : goal.decreases-loop-low
decreases-loop-low l = l.high - l.low
