use Rattle.mx_node_runs.proofs.Naming.{AreNamed}
use Rattle.mx_node_runs.proofs.arguments.name_arguments.Given as goal

abbrev pub invariant-loop-place : goal.invariant-loop-place
invariant-loop-place l = AreNamed l.given l.params l.arguments l.place
