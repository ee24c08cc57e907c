use Rattle.std.proofs.Common.{◌≡◌, map, take}
use Rattle.mx_value.specs.Normal.{normal_of}
use Rattle.mx_value.proofs.normal.+normal.Given as goal

abbrev pub invariant-normal-loop-i : goal.invariant-normal-loop-i
invariant-normal-loop-i l =
    goal.unvisited-normal-loop-i l × (take l.i l.values.items ≡ map normal_of (take l.i l.initial.values.items))
