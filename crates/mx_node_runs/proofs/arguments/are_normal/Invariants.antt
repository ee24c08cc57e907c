use Rattle.std.proofs.Common.{◌≡◌, map, take}
use Rattle.mx_value.specs.Normal.{normal_of}
use Rattle.mx_node_runs.proofs.arguments.are_normal.Given as goal

abbrev pub invariant-loop-value : goal.invariant-loop-value
invariant-loop-value l = map normal_of (take l.value-index l.values) ≡ take l.value-index l.values
