use Rattle.std.proofs.Common.{◌≡◌, take}
use Rattle.mx_lookup.proofs.addresses.copy_names.Given as goal

abbrev pub invariant-loop-name : goal.invariant-loop-name
invariant-loop-name l = l.copy.items ≡ take l.name-index l.names
