use Rattle.std.proofs.Common.{◌≡◌}
use Rattle.mx_stack.specs.Flight.{on_top}
use Rattle.mx_interpreter.specs.Values.{with_values}
use Rattle.mx_interpreter.proofs.taking.push_values.Given as goal

abbrev pub invariant-loop-value : goal.invariant-loop-value
invariant-loop-value l = on_top (with_values l.value-iterator.rest.items l.stack.top) l.stack ≡ on_top (with_values l.fn.values l.fn.stack.top) l.fn.stack
