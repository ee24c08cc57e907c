use Rattle.std.proofs.Common.{◌≡◌, ◌-◌, List, [], reverse}
use Rattle.mx_value.specs.declared.value.Value.{Value}
use Rattle.mx_code_law.specs.States.{Slot, Next, on_many, state}
use Rattle.mx_stack.specs.Flight.{on_top}
use Rattle.mx_stack.proofs.taking.pop_values.Given as goal

abbrev pub invariant-loop : goal.invariant-loop
invariant-loop l = record {
  taken : (go : List Value → List Slot → Next) → on_many l.count [] l.fn.stack.top.stack go ≡ on_many (l.count - l.counter) (reverse l.values.items) l.stack.top.stack go;
  rest : l.stack ≡ on_top (state l.fn.stack.top.pc l.stack.top.stack l.fn.stack.top.locals) l.fn.stack;
}
