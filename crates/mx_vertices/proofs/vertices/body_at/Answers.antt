use Rattle.std.proofs.Common.{◌≡◌, rules, refl}
use Rattle.mx_vertices.specs.declared.slot.Slot.TheVariants.{Node}
use Rattle.mx_vertices.specs.Places.{slot_at}
use Rattle.mx_vertices.proofs.vertices.body_at.Goals as goal

pub returns-in-Node : goal.returns-in-Node
returns-in-Node c =
    let slot : slot_at c.args.slots.now c.args.id.at ≡ Node c.in-Node.held = search rules in
    record { held = c.in-Node.held; slot = slot; is = refl }
