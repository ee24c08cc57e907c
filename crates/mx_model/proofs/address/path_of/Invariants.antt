use Rattle.std.proofs.Common.{◌≡◌, Some, take}
use Rattle.mx_model.specs.Inputs.{path_of}
use Rattle.mx_model.proofs.address.path_of.Given as goal

abbrev pub invariant-loop-segment : goal.invariant-loop-segment
invariant-loop-segment l = path_of (take l.segment-index l.at) ≡ Some l.names.items
