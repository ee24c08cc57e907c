use Rattle.std.proofs.Common.{◌≡◌, ◌++◌, drop, take}
use Rattle.mx_value.specs.declared.value.Value.{Value}
use Rattle.mx_meaning.specs.Namespaces.{overlaid}
use Rattle.mx_lookup.proofs.overlays.place_of.Given as goal

abbrev pub invariant-loop-at : goal.invariant-loop-at
invariant-loop-at l = (v : Value) → overlaid l.overlay l.name v ≡ take l.at l.overlay ++ overlaid (drop l.at l.overlay) l.name v
