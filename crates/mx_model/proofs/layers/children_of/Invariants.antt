use Rattle.std.proofs.Common.{◌≡◌, take}
use Rattle.std.specs.List.{filter_map}
use Rattle.mx_model.specs.Layers.{child_of}
use Rattle.mx_model.proofs.layers.children_of.Given as goal

abbrev pub invariant-loop-s : goal.invariant-loop-s
invariant-loop-s l = l.children.items ≡ filter_map (child_of l.text l.name) (take l.s-index l.s-items)
