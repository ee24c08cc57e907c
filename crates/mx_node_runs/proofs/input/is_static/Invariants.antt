use Rattle.std.proofs.Common.{◌≡◌, drop}
use Rattle.mx_runs.specs.Inputs.{is_static}
use Rattle.mx_node_runs.proofs.input.is_static.Given as goal

abbrev pub invariant-loop-segment : goal.invariant-loop-segment
invariant-loop-segment l = is_static (drop l.segment-index l.at) ≡ is_static l.at
