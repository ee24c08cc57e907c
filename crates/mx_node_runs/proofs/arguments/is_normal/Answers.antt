use Rattle.mx_value.proofs.Normals.{normal-others}
use Rattle.mx_node_runs.proofs.arguments.is_normal.Goals as goal

pub returns-in_default : goal.returns-in_default
returns-in_default c = λ yes_. normal-others c.args.value.now c.in_default.not-Fix c.in_default.not-Tup
