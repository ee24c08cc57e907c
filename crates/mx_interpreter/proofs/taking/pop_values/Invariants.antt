use Rattle.std.proofs.Common.{◌≡◌, ◌-◌, List, [], reverse}
use Rattle.mx_value.specs.declared.value.Value.{Value}
use Rattle.mx_code_law.specs.States.{Slot, Next, on_many}
use Rattle.mx_stack.specs.Flight.{on_top}
use Rattle.mx_interpreter.specs.Values.{with_values}
use Rattle.mx_interpreter.proofs.taking.pop_values.Given as goal

abbrev pub invariant-loop : goal.invariant-loop
invariant-loop l = record {
  taken : (go : List Value → List Slot → Next) → on_many l.count [] l.fn.stack.top.stack go ≡ on_many (l.count - l.counter) (reverse l.values.items) l.stack.top.stack go;
  stood : l.fn.stack ≡ on_top (with_values (reverse l.values.items) l.stack.top) l.stack;
}
