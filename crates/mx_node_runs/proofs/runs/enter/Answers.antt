use Rattle.std.proofs.Common.{◌≡◌, ◌∙◌, sym}
use Rattle.mx_value.specs.declared.node.Node.{Node}
use Rattle.mx_value.specs.declared.node.Node.TheVariants.{Cell, Item}
use Rattle.mx_edit.specs.declared.key.Key.TheVariants as key
use Rattle.mx_runs.specs.Runs.{Looks}
use Rattle.mx_meaning.specs.Nodes.{cells_found, item_run}
use Rattle.mx_state.specs.Model.{model_of}
use Rattle.mx_node_runs.specs.Behind.{behind}
use Rattle.mx_node_runs.proofs.Halting.{of_one, of_same}
use Rattle.mx_node_runs.proofs.Formulas.{behind_cells, behind_item}
use Rattle.mx_node_runs.proofs.runs.enter.Goals as goal

pub returns-in-Cell : goal.returns-in-Cell
returns-in-Cell c =
    let n : Node = c.args.node.now in
    let e : n ≡ Cell c.in-Cell.field-0 c.in-Cell.name c.in-Cell.arguments = sym c.get.ensures ∙ c.in-Cell.is in
    of_one c.enter_cells.result c.enter_cells.ensures (λ at h.
    of_same (model_of c.args.world.now) n (behind n c.args.space) (Looks (key.Cells c.args.space.source c.in-Cell.name) (cells_found n c.args.space c.in-Cell.arguments)) c.args.seen.now c.enter_cells.new.seen at c.args.stack.now c.enter_cells.new.stack
    (behind_cells n c.in-Cell.field-0 c.in-Cell.name c.in-Cell.arguments c.args.space e) h)

pub returns-in-Item : goal.returns-in-Item
returns-in-Item c =
    let n : Node = c.args.node.now in
    let e : n ≡ Item c.in-Item.field-0 c.in-Item.arguments = sym c.get.ensures ∙ c.in-Item.is in
    of_one c.enter_item.result c.enter_item.ensures (λ at h.
    of_same (model_of c.args.world.now) n (behind n c.args.space) (item_run n c.in-Item.arguments c.args.space) c.args.seen.now c.enter_item.new.seen at c.args.stack.now c.enter_item.new.stack
    (behind_item n c.in-Item.field-0 c.in-Item.arguments c.args.space e) h)
