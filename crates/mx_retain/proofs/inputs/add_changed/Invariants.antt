use Rattle.std.proofs.Common.{◌≡◌, ◌++◌, take}
use Rattle.mx_retain.specs.Changed.{changed_in}
use Rattle.mx_retain.proofs.inputs.add_changed.Given as goal

abbrev pub invariant-loop-place : goal.invariant-loop-place
invariant-loop-place l = l.nodes.items ≡ l.fn.nodes.items ++ changed_in l.before l.after (take l.place l.inputs)
