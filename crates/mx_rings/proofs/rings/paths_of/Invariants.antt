use Rattle.std.proofs.Common.{◌≡◌, take, map}
use Rattle.mx_rings.specs.Links.{path_at}
use Rattle.mx_rings.proofs.rings.paths_of.Given as goal

abbrev pub invariant-loop-s : goal.invariant-loop-s
invariant-loop-s l = l.paths.items ≡ map (path_at l.text) (take l.s-index l.spaces)
