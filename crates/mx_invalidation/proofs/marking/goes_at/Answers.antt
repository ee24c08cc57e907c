use Rattle.std.proofs.Common.{◌≡◌, ◌∙◌, rules, sym}
use Rattle.mx_vertices.specs.declared.slot.Slot.TheVariants.{Node}
use Rattle.mx_vertices.specs.Places.{slot_at}
use Rattle.mx_invalidation.proofs.marking.goes_at.Goals as goal

pub returns-in-Node-clause-yes : goal.returns-in-Node-clause-yes
returns-in-Node-clause-yes g c t =
    let slot : slot_at c.args.slots.now c.args.id.at ≡ Node c.in-Node.held = search rules in
    record { held = c.in-Node.held; slot = slot; tells = sym c.is_to_go.ensures ∙ t }
