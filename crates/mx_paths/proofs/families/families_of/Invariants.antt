use Rattle.mx_paths.specs.Sorting.{AreSorted}
use Rattle.mx_paths.proofs.families.families_of.Given as goal

abbrev pub invariant-loop-place : goal.invariant-loop-place
invariant-loop-place l = AreSorted l.text l.place l.tops l.families.items
