use Rattle.std.proofs.Common.{◌≡◌, ◌++◌, take}
use Rattle.mx_lookup.proofs.addresses.extend_path.Given as goal

abbrev pub invariant-loop-name : goal.invariant-loop-name
invariant-loop-name l = l.all.items ≡ l.path ++ take l.name-index l.names
