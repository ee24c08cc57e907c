use Rattle.std.proofs.Common.{◌≡◌, Some, take, length}
use Rattle.mx_model.specs.Inputs.{path_of}
use Rattle.mx_walks.proofs.near.are_names.Given as goal

abbrev pub invariant-loop-place : goal.invariant-loop-place
invariant-loop-place l = path_of (take l.place l.segments) ≡ Some (take l.place l.names)
