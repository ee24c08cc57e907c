use Rattle.std.proofs.Common.{◌≡◌, ◌++◌, map, take, drop}
use Rattle.std.specs.List.{filter_map}
use Rattle.mx_paths.specs.Siblings.{first_named, without_first}
use Rattle.mx_paths.proofs.walk.take_first.Given as goal

abbrev pub invariant-loop-place : goal.invariant-loop-place
invariant-loop-place l = record {
  taken : l.spaces.items ≡ filter_map (first_named l.name) (take l.place l.initial.families);
  left : l.families ≡ map (without_first l.name) (take l.place l.initial.families) ++ drop l.place l.initial.families;
}
