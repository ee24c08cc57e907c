use Rattle.std.proofs.Common.{◌≡◌, ◌∙◌, sym, ap}
use Rattle.mx_value.specs.declared.value.Value.{Value}
use Rattle.mx_value.specs.declared.fault.FaultKind.TheVariants.{NoName}
use Rattle.mx_model.specs.Keys.{key_result}
use Rattle.mx_runs.specs.Runs.{NoSuch, WrongCount}
use Rattle.mx_code_law.specs.States.{Fault, Next, On}
use Rattle.mx_code_law.specs.Finding.{sought_in_next}
use Rattle.mx_stack.specs.Flight.{on_top, with_value}
use Rattle.mx_stack.specs.Walks.{answered, place_of}
use Rattle.mx_read_set.specs.Passed.{passed}
use Rattle.mx_walks.specs.Ways.{AsksAt, Came, Refused, told}
use Rattle.mx_interpreter.specs.Reached.{on_walk_again}
use Rattle.mx_interpreter.proofs.Walks.{asks_again, attribute_led}
use Rattle.mx_interpreter.proofs.attributes.run_attribute.Goals as goal

pub returns-in-Came-clause-came : goal.returns-in-Came-clause-came
returns-in-Came-clause-came c = λ h line.
    let to = answered c.pop_value.new.stack.top in
    attribute_led (key_result c.args.world.now) h line c.args.name.now c.args.stack.now c.pop_way.new.stack c.pop_value.new.stack (place_of c.in_ok-way.way) c.in_ok-of.of c.in-Space.at (Came c.in-Came.space) c.args.seen.now
    c.in_ok-way.ensures.taken c.in_ok-way.ensures.below c.in_ok-way.ensures.rest c.in_ok-of.ensures c.in-Space.is (sym (ap told c.in-Came.is) ∙ c.in_ok-space.ensures)
    ∙ c.in_ok-found-in-Came.ensures (key_result c.args.world.now) h line (on_walk_again c.pop_value.new.stack.top) to (sought_in_next h c.in-Came.space c.args.name.now line (λ v. On (to v)) (Fault h NoName line)) c.args.seen.now c.seek_through-sought.new.seen
    (c.seek_through-sought.ensures h line (λ v. On (to v)))

pub returns-in-Asks-clause-came : goal.returns-in-Asks-clause-came
returns-in-Asks-clause-came c = λ h line.
    attribute_led (key_result c.args.world.now) h line c.args.name.now c.args.stack.now c.pop_way.new.stack c.pop_value.new.stack (place_of c.in_ok-way.way) c.in_ok-of.of c.in-Space.at (AsksAt c.in-Asks.node c.in-Asks.rest) c.args.seen.now
    c.in_ok-way.ensures.taken c.in_ok-way.ensures.below c.in_ok-way.ensures.rest c.in_ok-of.ensures c.in-Space.is (sym (ap told c.in-Asks.is) ∙ c.in_ok-space.ensures)
    ∙ ap (λ (n : Next). passed (key_result c.args.world.now) n c.args.seen.now)
    (asks_again c.args.stack.now c.pop_way.new.stack c.in_ok-way.ensures.below c.in_ok-way.ensures.rest c.in-Asks.node c.in-Asks.rest c.push.new.self
    (c.in_ok-push-in-Asks.ensures ∙ ap (λ (v : Value). on_top (with_value v c.pop_value.new.stack.top) c.pop_value.new.stack) (sym c.in-Space.is) ∙ sym c.in_ok-of.ensures))

pub returns-in-NoSuch-clause-came : goal.returns-in-NoSuch-clause-came
returns-in-NoSuch-clause-came c = λ h line.
    attribute_led (key_result c.args.world.now) h line c.args.name.now c.args.stack.now c.pop_way.new.stack c.pop_value.new.stack (place_of c.in_ok-way.way) c.in_ok-of.of c.in-Space.at (Refused NoSuch) c.args.seen.now
    c.in_ok-way.ensures.taken c.in_ok-way.ensures.below c.in_ok-way.ensures.rest c.in_ok-of.ensures c.in-Space.is (sym (ap told c.in-NoSuch.is) ∙ c.in_ok-space.ensures)

pub returns-in-WrongCount-clause-came : goal.returns-in-WrongCount-clause-came
returns-in-WrongCount-clause-came c = λ h line.
    attribute_led (key_result c.args.world.now) h line c.args.name.now c.args.stack.now c.pop_way.new.stack c.pop_value.new.stack (place_of c.in_ok-way.way) c.in_ok-of.of c.in-Space.at (Refused WrongCount) c.args.seen.now
    c.in_ok-way.ensures.taken c.in_ok-way.ensures.below c.in_ok-way.ensures.rest c.in_ok-of.ensures c.in-Space.is (sym (ap told c.in-WrongCount.is) ∙ c.in_ok-space.ensures)
