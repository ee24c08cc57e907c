use Rattle.std.proofs.Common.{◌≡◌, ◌∙◌, sym, ap, subst}
use Rattle.mx_value.specs.declared.value.Value.{Value, out-Value}
use Rattle.mx_value.specs.declared.value.Segment.{Segment}
use Rattle.std.specs.Prelude.{List, Option}
use Rattle.mx_model.specs.Keys.{key_result}
use Rattle.mx_code_law.specs.States.{Home, Holds, Next, slot_of}
use Rattle.mx_code_law.specs.Finding.{Place}
use Rattle.mx_code_law.specs.Calling.{call_next, index_next}
use Rattle.mx_stack.specs.Callees.{callee_of}
use Rattle.mx_stack.specs.Walks.{again, answered, place_of}
use Rattle.mx_stack.proofs.Walking.{called, subscripted}
use Rattle.mx_read_set.specs.Passed.{passed}
use Rattle.mx_interpreter.specs.declared.walking.Come.{Come}
use Rattle.mx_interpreter.specs.declared.walking.Come.TheVariants as come
use Rattle.mx_interpreter.specs.Reached.{on_walk_again}
use Rattle.mx_interpreter.specs.Walking.{IsWalk, come_as}
use Rattle.mx_interpreter.proofs.Values.{rest_of, restored}
use Rattle.mx_interpreter.proofs.Walks.{asks_again, call_walks, index_walks}
use Rattle.mx_interpreter.proofs.calls.run_call.Goals as goal

pub returns-in-Here-clause-came : goal.returns-in-Here-clause-came
returns-in-Here-clause-came c = λ h line.
    let walk : Place → Next = λ p. call_next h p (callee_of c.in_ok-callee.callee) c.in_ok-arguments.arguments line (again c.args.stack.now.top) (answered c.pop_callee.new.stack.top) in
    ap (λ (n : Next). passed (key_result c.args.world.now) n c.args.seen.now)
    (called h line c.args.stack.now c.pop_way.new.stack (place_of c.in_ok-way.way) c.in_ok-way.ensures.taken c.in_ok-way.ensures.below c.in_ok-way.ensures.rest
    c.args.count c.in_ok-arguments.arguments c.pop_values.new.stack c.in_ok-arguments.ensures.taken (rest_of c.pop_way.new.stack c.pop_values.new.stack c.in_ok-arguments.arguments c.in_ok-arguments.ensures.stood)
    c.pop_callee.new.stack (callee_of c.in_ok-callee.callee) c.in_ok-callee.ensures)
    ∙ subst (λ (f : Come). passed (key_result c.args.world.now) (walk (place_of c.in_ok-way.way)) c.args.seen.now ≡ passed (key_result c.args.world.now) (come_as f walk (again c.args.stack.now.top)) c.args.seen.now) c.in-Here.is
    (c.in_ok-here.ensures walk (again c.args.stack.now.top) c.args.seen.now (subst (λ (a : Option (List Segment)). IsWalk walk a (again c.args.stack.now.top)) (sym c.callee_address.ensures) (call_walks h c.in_ok-arguments.arguments line (again c.args.stack.now.top) (answered c.pop_callee.new.stack.top) (callee_of c.in_ok-callee.callee))))
    ∙ c.in_ok-called-in-Here.ensures.came h line (again c.args.stack.now.top) (answered c.pop_callee.new.stack.top)
    ∙ ap (λ (n : Next). passed (key_result c.args.world.now) n c.call.new.seen) (c.in_ok-led_to-in-Here.ensures h line (again c.args.stack.now.top) (on_walk_again c.pop_callee.new.stack.top) (answered c.pop_callee.new.stack.top))

pub returns-in-Asks-clause-came : goal.returns-in-Asks-clause-came
returns-in-Asks-clause-came c = λ h line.
    let walk : Place → Next = λ p. call_next h p (callee_of c.in_ok-callee.callee) c.in_ok-arguments.arguments line (again c.args.stack.now.top) (answered c.pop_callee.new.stack.top) in
    ap (λ (n : Next). passed (key_result c.args.world.now) n c.args.seen.now)
    (called h line c.args.stack.now c.pop_way.new.stack (place_of c.in_ok-way.way) c.in_ok-way.ensures.taken c.in_ok-way.ensures.below c.in_ok-way.ensures.rest
    c.args.count c.in_ok-arguments.arguments c.pop_values.new.stack c.in_ok-arguments.ensures.taken (rest_of c.pop_way.new.stack c.pop_values.new.stack c.in_ok-arguments.arguments c.in_ok-arguments.ensures.stood)
    c.pop_callee.new.stack (callee_of c.in_ok-callee.callee) c.in_ok-callee.ensures)
    ∙ subst (λ (f : Come). passed (key_result c.args.world.now) (walk (place_of c.in_ok-way.way)) c.args.seen.now ≡ passed (key_result c.args.world.now) (come_as f walk (again c.args.stack.now.top)) c.args.seen.now) c.in-Asks.is
    (c.in_ok-here.ensures walk (again c.args.stack.now.top) c.args.seen.now (subst (λ (a : Option (List Segment)). IsWalk walk a (again c.args.stack.now.top)) (sym c.callee_address.ensures) (call_walks h c.in_ok-arguments.arguments line (again c.args.stack.now.top) (answered c.pop_callee.new.stack.top) (callee_of c.in_ok-callee.callee))))
    ∙ ap (λ (n : Next). passed (key_result c.args.world.now) n c.args.seen.now)
    (asks_again c.args.stack.now c.pop_way.new.stack c.in_ok-way.ensures.below c.in_ok-way.ensures.rest c.in-Asks.node c.in-Asks.rest c.push_values.new.stack
    (restored c.pop_way.new.stack c.pop_values.new.stack c.in_ok-arguments.arguments c.in_ok-arguments.ensures.stood (slot_of (callee_of c.in_ok-callee.callee)) c.pop_callee.new.stack c.push_callee.new.stack c.push_values.new.stack c.in_ok-callee.ensures c.in_ok-push_callee-in-Asks.ensures c.in_ok-push_values-in-Asks.ensures))

pub returns-in-NoSuch-clause-came : goal.returns-in-NoSuch-clause-came
returns-in-NoSuch-clause-came c = λ h line.
    let walk : Place → Next = λ p. call_next h p (callee_of c.in_ok-callee.callee) c.in_ok-arguments.arguments line (again c.args.stack.now.top) (answered c.pop_callee.new.stack.top) in
    ap (λ (n : Next). passed (key_result c.args.world.now) n c.args.seen.now)
    (called h line c.args.stack.now c.pop_way.new.stack (place_of c.in_ok-way.way) c.in_ok-way.ensures.taken c.in_ok-way.ensures.below c.in_ok-way.ensures.rest
    c.args.count c.in_ok-arguments.arguments c.pop_values.new.stack c.in_ok-arguments.ensures.taken (rest_of c.pop_way.new.stack c.pop_values.new.stack c.in_ok-arguments.arguments c.in_ok-arguments.ensures.stood)
    c.pop_callee.new.stack (callee_of c.in_ok-callee.callee) c.in_ok-callee.ensures)
    ∙ subst (λ (f : Come). passed (key_result c.args.world.now) (walk (place_of c.in_ok-way.way)) c.args.seen.now ≡ passed (key_result c.args.world.now) (come_as f walk (again c.args.stack.now.top)) c.args.seen.now) c.in-NoSuch.is
    (c.in_ok-here.ensures walk (again c.args.stack.now.top) c.args.seen.now (subst (λ (a : Option (List Segment)). IsWalk walk a (again c.args.stack.now.top)) (sym c.callee_address.ensures) (call_walks h c.in_ok-arguments.arguments line (again c.args.stack.now.top) (answered c.pop_callee.new.stack.top) (callee_of c.in_ok-callee.callee))))

pub returns-in-WrongCount-clause-came : goal.returns-in-WrongCount-clause-came
returns-in-WrongCount-clause-came c = λ h line.
    let walk : Place → Next = λ p. call_next h p (callee_of c.in_ok-callee.callee) c.in_ok-arguments.arguments line (again c.args.stack.now.top) (answered c.pop_callee.new.stack.top) in
    ap (λ (n : Next). passed (key_result c.args.world.now) n c.args.seen.now)
    (called h line c.args.stack.now c.pop_way.new.stack (place_of c.in_ok-way.way) c.in_ok-way.ensures.taken c.in_ok-way.ensures.below c.in_ok-way.ensures.rest
    c.args.count c.in_ok-arguments.arguments c.pop_values.new.stack c.in_ok-arguments.ensures.taken (rest_of c.pop_way.new.stack c.pop_values.new.stack c.in_ok-arguments.arguments c.in_ok-arguments.ensures.stood)
    c.pop_callee.new.stack (callee_of c.in_ok-callee.callee) c.in_ok-callee.ensures)
    ∙ subst (λ (f : Come). passed (key_result c.args.world.now) (walk (place_of c.in_ok-way.way)) c.args.seen.now ≡ passed (key_result c.args.world.now) (come_as f walk (again c.args.stack.now.top)) c.args.seen.now) c.in-WrongCount.is
    (c.in_ok-here.ensures walk (again c.args.stack.now.top) c.args.seen.now (subst (λ (a : Option (List Segment)). IsWalk walk a (again c.args.stack.now.top)) (sym c.callee_address.ensures) (call_walks h c.in_ok-arguments.arguments line (again c.args.stack.now.top) (answered c.pop_callee.new.stack.top) (callee_of c.in_ok-callee.callee))))
