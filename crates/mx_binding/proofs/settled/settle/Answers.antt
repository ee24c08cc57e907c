use Rattle.std.proofs.Common.{sym, subst}
use Rattle.std.proofs.lemmas.Result.{IfOk-weaker}
use Rattle.mx_value.specs.declared.node.Node.{Node}
use Rattle.mx_state.specs.Model.{model_of}
use Rattle.mx_binding.specs.Settles.{Settles}
use Rattle.mx_binding.proofs.settled.settle.Goals as goal

pub returns-in-Cell : goal.returns-in-Cell
returns-in-Cell c =
    IfOk-weaker c.settle_cells.result _ _
    (λ to s. subst (λ (n : Node). Settles (model_of c.args.world.now) n c.args.space.now to) (sym c.in-Cell.is) (s c.in-Cell.field-0))
    c.settle_cells.ensures

pub returns-in-Item : goal.returns-in-Item
returns-in-Item c =
    IfOk-weaker c.settle_item.result _ _
    (λ to s. subst (λ (n : Node). Settles (model_of c.args.world.now) n c.args.space.now to) (sym c.in-Item.is) (s c.in-Item.field-0))
    c.settle_item.ensures
