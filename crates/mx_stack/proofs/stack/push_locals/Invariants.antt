use Rattle.std.proofs.Common.{◌≡◌, ◌≤◌, ◌++◌, length, map, take}
use Rattle.mx_code_law.specs.States.{Holds}
use Rattle.mx_stack.specs.Slots.{told, unset_slots}
use Rattle.mx_stack.proofs.stack.push_locals.Given as goal

abbrev pub invariant-loop-argument : goal.invariant-loop-argument
invariant-loop-argument l = record {
  is : map told l.slots.items ≡ map told l.fn.slots.items ++ map Holds (take l.argument-index l.arguments);
  longer : length l.fn.slots.items ≤ length l.slots.items;
}

abbrev pub invariant-loop : goal.invariant-loop
invariant-loop l = record {
  is : map told l.slots.items ≡ map told l.fn.slots.items ++ (map Holds l.arguments ++ unset_slots l.counter);
  longer : length l.fn.slots.items ≤ length l.slots.items;
}
