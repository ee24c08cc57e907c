use Rattle.std.proofs.Common.{◌≡◌, [], take}
use Rattle.mx_paths.specs.Siblings.{firsts}
use Rattle.mx_paths.specs.Walking.{families_in}
use Rattle.mx_paths.proofs.walk.Walk.are_childless.Given as goal

abbrev pub invariant-loop-s : goal.invariant-loop-s
invariant-loop-s l = firsts (families_in l.self.families.items (take l.s-index l.spaces)) ≡ []
