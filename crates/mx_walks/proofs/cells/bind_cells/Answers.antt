use Rattle.std.proofs.Common.{◌∙◌, List, sym, ap}
use Rattle.std.proofs.lemmas.Result.{IfOk-weaker}
use Rattle.mx_value.specs.declared.label.Label.{Label}
use Rattle.mx_value.specs.declared.value.Segment.{Segment}
use Rattle.mx_value.specs.declared.node.Node.TheVariants.{Cell}
use Rattle.mx_value.specs.declared.fault.FaultKind.{FaultKind}
use Rattle.mx_code_law.specs.States.{Ask, Fault}
use Rattle.mx_walks.proofs.Comings.{refused}
use Rattle.mx_walks.proofs.cells.bind_cells.Goals as goal

pub returns-in-Ok : goal.returns-in-Ok
returns-in-Ok c = IfOk-weaker c.ask_node.result _ _ (λ called is h line again to.
    c.in-Ok.ensures h line (λ vs. Ask (Cell c.args.at.now c.args.name.now vs) (λ r. to r.value))
    ∙ ap (λ (x : List Segment). Ask (Cell x c.args.name.now c.in-Ok.full) (λ r. to r.value)) (sym c.in_ok-copy-in-Ok.ensures)
    ∙ ap (λ (x : Label). Ask (Cell c.in_ok-copy-in-Ok.field-0 x c.in-Ok.full) (λ r. to r.value)) (sym c.in_ok-copy-in-Ok-2.ensures)
    ∙ is h line again to) c.ask_node.ensures

pub returns-in-Err-Fault : goal.returns-in-Err-Fault
returns-in-Err-Fault c = λ h line again to.
    refused c.args.params.now c.args.arguments c.in-Err-Fault.field-0 c.in-Err-Fault.kind c.in-Err-Fault.field-0-is c.in-Err-Fault.ensures h line
    (λ vs. Ask (Cell c.args.at.now c.args.name.now vs) (λ r. to r.value))
    ∙ ap (λ (x : FaultKind). Fault h x line) (sym c.in-Err-Fault.kind-is)
