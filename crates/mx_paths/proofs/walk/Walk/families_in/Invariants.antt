use Rattle.std.proofs.Common.{◌≡◌, take}
use Rattle.mx_paths.specs.Walking.{families_in}
use Rattle.mx_paths.proofs.walk.Walk.families_in.Given as goal

abbrev pub invariant-loop-s : goal.invariant-loop-s
invariant-loop-s l = l.families.items ≡ families_in l.self.families.items (take l.s-index l.spaces)
