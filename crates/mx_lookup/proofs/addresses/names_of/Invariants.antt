use Rattle.std.proofs.Common.{◌≡◌, drop}
use Rattle.mx_meaning.specs.Namespaces.{names_of}
use Rattle.mx_lookup.proofs.Paths.{prefixed}
use Rattle.mx_lookup.proofs.addresses.names_of.Given as goal

abbrev pub invariant-loop-segment : goal.invariant-loop-segment
invariant-loop-segment l = prefixed l.names.items (names_of (drop l.segment-index l.segment-items)) ≡ names_of l.segment-items
