use Rattle.std.proofs.Common.{◌≡◌, ◌++◌, take, map}
use Rattle.mx_value.specs.declared.value.Segment.TheVariants.{Name}
use Rattle.mx_items.proofs.way.put_names.Given as goal

abbrev pub invariant-loop-name : goal.invariant-loop-name
invariant-loop-name l = l.at.items ≡ l.initial.at.items ++ map Name (take l.name-index l.names)
