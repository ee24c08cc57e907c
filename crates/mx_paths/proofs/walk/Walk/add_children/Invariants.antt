use Rattle.std.proofs.Common.{◌-◌, length}
use Rattle.mx_paths.specs.Walking.{IsOpen, IsLonger, GoesOn}
use Rattle.mx_paths.proofs.walk.Walk.add_children.Given as goal

abbrev pub invariant-loop-name : goal.invariant-loop-name
invariant-loop-name l = record {
  open_still : IsOpen l.self.text.now l.paths l.path l.families.items;
  on : GoesOn l.self.text.now l.path l.initial.paths l.initial.families.items l.paths l.families.items;
  longer : IsLonger l.initial.paths l.paths;
}

abbrev pub decreases-loop-name : goal.decreases-loop-name
decreases-loop-name l = 20000 - length l.paths
