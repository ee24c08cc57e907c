use Rattle.std.proofs.Common.{◌≡◌, drop}
use Rattle.mx_meaning.specs.Namespaces.{value_in}
use Rattle.mx_lookup.proofs.names.value_in.Given as goal

abbrev pub invariant-loop-other : goal.invariant-loop-other
invariant-loop-other l = value_in l.overlay l.name ≡ value_in (drop l.other-index l.overlay) l.name
