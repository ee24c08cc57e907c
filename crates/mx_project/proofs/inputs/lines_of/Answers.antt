use Rattle.mx_value.specs.declared.node.Node.{Node}
use Rattle.mx_value.specs.declared.value.Value.{Value}
use Rattle.mx_project.specs.Lines.{input_line}
use Rattle.mx_project.specs.Inputs.{input_in}
use Rattle.mx_project.proofs.Pieces.{made_more}
use Rattle.mx_project.proofs.inputs.lines_of.Goals as goal

pub loop-row-preserved : goal.loop-row-preserved
loop-row-preserved c =
    rw (c.in_ok-push_input.ensures, c.get.ensures, c.loop-row.invariant)
    (made_more input_in (λ (i : Node × Value). input_line i.0 i.1) c.args.rows.now c.loop-row.row-index c.row-item.result c.loop-row-test.true c.row-item.is)
