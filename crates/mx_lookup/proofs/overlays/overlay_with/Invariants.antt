use Rattle.std.proofs.Common.{◌≡◌, take}
use Rattle.mx_meaning.specs.Namespaces.{overlaid_by}
use Rattle.mx_lookup.proofs.overlays.overlay_with.Given as goal

abbrev pub invariant-loop-name : goal.invariant-loop-name
invariant-loop-name l = l.all.items ≡ overlaid_by l.under (take l.name-index l.name-items)
