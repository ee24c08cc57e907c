use Rattle.std.proofs.Common.{◌≡◌, ◌∙◌, Some, sym, ap}
use Rattle.mx_model.specs.Keys.{key_result}
use Rattle.mx_runs.specs.Runs.{NoSuch, WrongCount}
use Rattle.mx_code_law.specs.States.{Next}
use Rattle.mx_stack.specs.Walks.{place_of}
use Rattle.mx_read_set.specs.Passed.{passed}
use Rattle.mx_walks.specs.Ways.{AsksAt, Came, Refused, told}
use Rattle.mx_interpreter.proofs.Walks.{comes, ended}
use Rattle.mx_interpreter.proofs.walking.walk_first.Goals as goal

pub returns-in-Came : goal.returns-in-Came
returns-in-Came c = λ walk back seen is.
    let k = rw c.in-Some.is at is in
    let look = key_result c.args.world.now in
    comes look walk back c.in-Some.at.now k (place_of c.args.way) (Came c.in-Came.space) seen (sym (ap told c.in-Came.is) ∙ c.in_ok-space.ensures)
    ∙ ap (λ (n : Next). passed look n seen) (sym (ended look walk back c.in-Some.at.now k (place_of (Some c.in_ok-end_of-in-Came.field-0)) c.in-Came.space c.in_ok-end_of-in-Came.ensures))

pub returns-in-Asks : goal.returns-in-Asks
returns-in-Asks c = λ walk back seen is.
    let k = rw c.in-Some.is at is in
    comes (key_result c.args.world.now) walk back c.in-Some.at.now k (place_of c.args.way) (AsksAt c.in-Asks.node c.in-Asks.rest) seen (sym (ap told c.in-Asks.is) ∙ c.in_ok-space.ensures)

pub returns-in-NoSuch : goal.returns-in-NoSuch
returns-in-NoSuch c = λ walk back seen is.
    let k = rw c.in-Some.is at is in
    comes (key_result c.args.world.now) walk back c.in-Some.at.now k (place_of c.args.way) (Refused NoSuch) seen (sym (ap told c.in-NoSuch.is) ∙ c.in_ok-space.ensures)

pub returns-in-WrongCount : goal.returns-in-WrongCount
returns-in-WrongCount c = λ walk back seen is.
    let k = rw c.in-Some.is at is in
    comes (key_result c.args.world.now) walk back c.in-Some.at.now k (place_of c.args.way) (Refused WrongCount) seen (sym (ap told c.in-WrongCount.is) ∙ c.in_ok-space.ensures)
