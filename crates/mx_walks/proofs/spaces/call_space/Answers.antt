use Rattle.std.proofs.Common.{ap}
use Rattle.mx_model.specs.Keys.{key_result}
use Rattle.mx_runs.specs.Runs.{NoSuch, WrongCount}
use Rattle.mx_code_law.specs.Calling.{space_called_next, space_sought_next}
use Rattle.mx_stack.specs.Walks.{place_of}
use Rattle.mx_walks.specs.Ways.{Came, AsksAt, Refused, told}
use Rattle.mx_walks.proofs.Comings.{comes_on, space_leads}
use Rattle.mx_walks.proofs.spaces.call_space.Goals as goal

pub returns-in-Came : goal.returns-in-Came
returns-in-Came c =
    comes_on (key_result c.args.world.now) (λ h line again to. space_called_next h (place_of c.args.way) c.args.at.now c.args.arguments line again to)
    (λ h line again to. space_sought_next h c.args.arguments line to c.in-Came.namespace) c.args.seen.now c.args.seen.now c.ask_item.new.seen c.ask_item.result
    (space_leads (key_result c.args.world.now) (place_of c.args.way) c.args.at.now c.args.arguments c.in_ok-namespace.field-0 (Came c.in-Came.namespace) c.args.seen.now c.in_ok-namespace.ensures (ap told c.in-Came.is))
    c.ask_item.ensures

pub returns-in-Asks : goal.returns-in-Asks
returns-in-Asks c = space_leads (key_result c.args.world.now) (place_of c.args.way) c.args.at.now c.args.arguments c.in_ok-namespace.field-0 (AsksAt c.in-Asks.node c.in-Asks.rest) c.args.seen.now c.in_ok-namespace.ensures (ap told c.in-Asks.is)

pub returns-in-NoSuch : goal.returns-in-NoSuch
returns-in-NoSuch c = space_leads (key_result c.args.world.now) (place_of c.args.way) c.args.at.now c.args.arguments c.in_ok-namespace.field-0 (Refused NoSuch) c.args.seen.now c.in_ok-namespace.ensures (ap told c.in-NoSuch.is)

pub returns-in-WrongCount : goal.returns-in-WrongCount
returns-in-WrongCount c = space_leads (key_result c.args.world.now) (place_of c.args.way) c.args.at.now c.args.arguments c.in_ok-namespace.field-0 (Refused WrongCount) c.args.seen.now c.in_ok-namespace.ensures (ap told c.in-WrongCount.is)
