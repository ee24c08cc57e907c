use Rattle.std.proofs.Common.{ap}
use Rattle.mx_value.specs.declared.value.CellsAt.{out-CellsAt}
use Rattle.mx_edit.specs.declared.key.Key.TheVariants as key
use Rattle.mx_model.specs.Keys.{key_result}
use Rattle.mx_runs.specs.Runs.{NoSuch, WrongCount}
use Rattle.mx_code_law.specs.States.{Look}
use Rattle.mx_code_law.specs.Calling.{cells_asked_next, cells_called_next}
use Rattle.mx_stack.specs.Walks.{place_of}
use Rattle.mx_walks.specs.Ways.{Came, AsksAt, Refused, told}
use Rattle.mx_walks.proofs.Comings.{comes_on, cells_lead}
use Rattle.mx_walks.proofs.cells.call_cells.Goals as goal

pub returns-in-Came : goal.returns-in-Came
returns-in-Came c =
    let name = (out-CellsAt c.args.cells.now).name in
    let ns = c.in-Came.namespace in
    comes_on (key_result c.args.world.now) (λ h line again to. cells_called_next h (place_of c.args.way) c.args.cells.now c.args.arguments line again to)
    (λ h line again to. Look (key.Cells ns.source name) (cells_asked_next h ns name c.args.arguments line to)) c.args.seen.now c.args.seen.now c.ask_cells.new.seen c.ask_cells.result
    (cells_lead (key_result c.args.world.now) (place_of c.args.way) c.args.cells.now c.args.arguments c.in_ok-namespace.field-0 (Came ns) c.args.seen.now c.in_ok-namespace.ensures (ap told c.in-Came.is))
    c.ask_cells.ensures

pub returns-in-Asks : goal.returns-in-Asks
returns-in-Asks c = cells_lead (key_result c.args.world.now) (place_of c.args.way) c.args.cells.now c.args.arguments c.in_ok-namespace.field-0 (AsksAt c.in-Asks.node c.in-Asks.rest) c.args.seen.now c.in_ok-namespace.ensures (ap told c.in-Asks.is)

pub returns-in-NoSuch : goal.returns-in-NoSuch
returns-in-NoSuch c = cells_lead (key_result c.args.world.now) (place_of c.args.way) c.args.cells.now c.args.arguments c.in_ok-namespace.field-0 (Refused NoSuch) c.args.seen.now c.in_ok-namespace.ensures (ap told c.in-NoSuch.is)

pub returns-in-WrongCount : goal.returns-in-WrongCount
returns-in-WrongCount c = cells_lead (key_result c.args.world.now) (place_of c.args.way) c.args.cells.now c.args.arguments c.in_ok-namespace.field-0 (Refused WrongCount) c.args.seen.now c.in_ok-namespace.ensures (ap told c.in-WrongCount.is)
