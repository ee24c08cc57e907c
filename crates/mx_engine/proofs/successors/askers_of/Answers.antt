use Rattle.std.proofs.Common.{List, sym, ◌∙◌, subst}
use Rattle.mx_value.specs.declared.node.Node.{Node}
use Rattle.mx_edit.specs.declared.key.Key.TheVariants.{Input}
use Rattle.mx_graph.specs.declared.ids.NodeId.{NodeId}
use Rattle.mx_vertices.specs.Kept.{looked}
use Rattle.mx_vertices.specs.Found.{IsHeldAs, IsNew}
use Rattle.mx_vertices.specs.Reading.{AreTakers}
use Rattle.mx_engine.specs.Successors.{AreAskers}
use Rattle.mx_engine.proofs.Askers.{input_askers, node_askers, no_askers}
use Rattle.mx_engine.proofs.successors.askers_of.Goals as goal

pub returns-in-Ok : goal.returns-in-Ok
returns-in-Ok c =
    input_askers c.args.world.now c.args.memo.now c.args.node.now c.in-Ok.ids.items c.laws.ensures.readers_are_entered c.requires.ordered (sym c.is_input.ensures ∙ c.if-is_input.true)
    (subst (λ (n : Node). AreTakers c.args.memo.now.held (looked (Input n)) c.in-Ok.ids.items) (c.in_ok-shared.ensures ∙ c.in_ok-copy.ensures) c.in-Ok.ensures)

pub returns-in_default : goal.returns-in_default
returns-in_default c =
    subst (λ (ids : List NodeId). AreAskers c.args.world.now c.args.memo.now c.args.node.now ids) (sym c.new-in_default.ensures.items)
    (no_askers c.laws.ensures.new_is_not_entered c.args.world.now c.args.memo.now c.args.node.now c.requires.memo.order (sym c.is_input.ensures ∙ c.if-is_input.false)
    (subst (λ (n : Node). IsNew c.args.memo.now.held n) (c.in_ok-shared.ensures ∙ c.in_ok-copy.ensures) c.in_default.ensures.none))

pub returns-in-Ok-askers_of : goal.returns-in-Ok-askers_of
returns-in-Ok-askers_of c =
    node_askers c.args.world.now c.args.memo.now c.args.node.now c.in-Ok-askers_of.ids.items c.laws.ensures.askers_are_entered c.requires.ordered c.requires.memo.right.once (sym c.is_input.ensures ∙ c.if-is_input.false)
    c.in-Some.id.at (subst (λ (n : Node). IsHeldAs c.args.memo.now.held c.in-Some.id.at n) (c.in_ok-shared.ensures ∙ c.in_ok-copy.ensures) c.in-Some.ensures.some) c.in-Ok-askers_of.ensures
