use Rattle.std.proofs.Common.{◌≡◌, rules}
use Rattle.mx_vertices.specs.declared.slot.Slot.TheVariants.{Node}
use Rattle.mx_vertices.specs.Places.{slot_at}
use Rattle.mx_vertices.proofs.finding.holds_node.Goals as goal

pub returns-in-Node-clause-yes : goal.returns-in-Node-clause-yes
returns-in-Node-clause-yes c t =
    let slot : slot_at c.args.slots.now c.args.id.at ≡ Node c.in-Node.held = search rules in
    record { held = c.in-Node.held; slot = slot; is = c.is_same_node.ensures.yes t }
