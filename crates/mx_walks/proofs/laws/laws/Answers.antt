use Rattle.mx_walks.proofs.Leading.{instruction_walks, run_walks, run_walks_on}
use Rattle.mx_walks.proofs.laws.laws.Goals as goal

pub returns-clause-instructions : goal.returns-clause-instructions
returns-clause-instructions c = instruction_walks

pub returns-clause-runs : goal.returns-clause-runs
returns-clause-runs c = run_walks

pub returns-clause-runs_on : goal.returns-clause-runs_on
returns-clause-runs_on c = run_walks_on
