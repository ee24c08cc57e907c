use Rattle.std.proofs.Common.{◌≡◌, ◌++◌, map, take}
use Rattle.mx_value.specs.declared.value.Segment.TheVariants as segment
use Rattle.mx_lookup.proofs.addresses.add_names.Given as goal

abbrev pub invariant-loop-name : goal.invariant-loop-name
invariant-loop-name l = l.segments.items ≡ l.at ++ map segment.Name (take l.name-index l.names)
