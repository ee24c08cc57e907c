use Rattle.mx_state.specs.Model.{model_of}
use Rattle.mx_node_runs.proofs.Stopping.{asks, ends}
use Rattle.mx_node_runs.proofs.code.proceed.Goals as goal

pub returns-in-Ends-clause-halts : goal.returns-in-Ends-clause-halts
returns-in-Ends-clause-halts c = λ run d.
    ends (model_of c.args.world.now) c.args.code c.get.result.now c.args.home c.get-here.result.now c.get.ensures c.get-here.ensures run c.args.seen.now c.run_code.new.seen c.args.stack.now.top c.run_code.new.stack.top
    c.in_ok-ending.field-0 c.in-Ends.ending c.in-Ends.is c.in_ok-ending.ensures.runs d

pub returns-in-Asks-clause-halts : goal.returns-in-Asks-clause-halts
returns-in-Asks-clause-halts c = λ run d.
    asks (model_of c.args.world.now) c.args.code c.get.result.now c.args.home c.get-here.result.now c.get.ensures c.get-here.ensures run c.args.seen.now c.run_code.new.seen c.args.stack.now.top c.run_code.new.stack.top
    c.in_ok-ending.field-0 c.in-Asks.asked c.in-Asks.resume c.in-Asks.is c.in_ok-ending.ensures.runs d
