use Rattle.std.proofs.Common.{◌∙◌, Bool, List, sym, ap}
use Rattle.std.proofs.lemmas.Result.{IfOk-weaker}
use Rattle.std.specs.Prelude.{if◌then◌else◌}
use Rattle.mx_value.specs.declared.value.Segment.{Segment}
use Rattle.mx_value.specs.declared.node.Node.TheVariants.{Item}
use Rattle.mx_value.specs.declared.fault.FaultKind.{FaultKind}
use Rattle.mx_value.specs.declared.fault.FaultKind.TheVariants.{TooLarge}
use Rattle.mx_code_law.specs.States.{Ask, Fault}
use Rattle.mx_code_law.specs.Calling.{item_asked_next}
use Rattle.mx_walks.proofs.Comings.{refused}
use Rattle.mx_walks.proofs.spaces.bind_item.Goals as goal

pub returns-then-not-is_allowed : goal.returns-then-not-is_allowed
returns-then-not-is_allowed c = λ h line again to.
    c.in-Ok.ensures h line (item_asked_next h c.args.namespace.now line to)
    ∙ ap (λ (b : Bool). if b then Ask (Item c.args.namespace.now.at c.in-Ok.full) (λ r. to r.value) else Fault h TooLarge line) (sym c.if-not-is_allowed.ensures)

pub returns-in-Ok : goal.returns-in-Ok
returns-in-Ok c = IfOk-weaker c.ask_node.result _ _ (λ called is h line again to.
    c.in-Ok.ensures h line (item_asked_next h c.args.namespace.now line to)
    ∙ ap (λ (b : Bool). if b then Ask (Item c.args.namespace.now.at c.in-Ok.full) (λ r. to r.value) else Fault h TooLarge line) (sym c.if-not-is_allowed.ensures)
    ∙ ap (λ (x : List Segment). Ask (Item x c.in-Ok.full) (λ r. to r.value)) (sym c.in_ok-copy-in-Ok.ensures)
    ∙ is h line again to) c.ask_node.ensures

pub returns-in-Err-Fault : goal.returns-in-Err-Fault
returns-in-Err-Fault c = λ h line again to.
    refused c.args.params.now c.args.arguments c.in-Err-Fault.field-0 c.in-Err-Fault.kind c.in-Err-Fault.field-0-is c.in-Err-Fault.ensures h line (item_asked_next h c.args.namespace.now line to)
    ∙ ap (λ (x : FaultKind). Fault h x line) (sym c.in-Err-Fault.kind-is)
