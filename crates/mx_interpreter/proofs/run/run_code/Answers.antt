use Rattle.std.proofs.Common.{◌≡◌, ◌∙◌, Option, Some, None, refl, rules, subst}
use Rattle.std.specs.Prelude.{slice_get}
use Rattle.mx_model.specs.Keys.{key_result}
use Rattle.mx_code.specs.Told.{told}
use Rattle.mx_code_law.specs.States.{On}
use Rattle.mx_code_law.specs.Machine.{next_of}
use Rattle.mx_read_set.specs.Passed.{passed}
use Rattle.mx_lookup.specs.Homes.{home_of}
use Rattle.mx_lookup.specs.declared.ending.Ending.TheVariants as ending
use Rattle.mx_interpreter.specs.declared.ahead.Ahead.{Ahead}
use Rattle.mx_interpreter.specs.declared.ahead.Ahead.TheVariants as ahead
use Rattle.mx_interpreter.specs.Ahead.{GoesAhead}
use Rattle.mx_interpreter.specs.declared.stepped.Stop.{Stop}
use Rattle.mx_interpreter.specs.declared.stepped.Stop.TheVariants as stop
use Rattle.mx_interpreter.specs.Reached.{stepped_as}
use Rattle.mx_interpreter.proofs.Past.{along_ahead, along_first, along_step, stopped}
use Rattle.mx_interpreter.proofs.run.run_code.Goals as goal

pub loop-init : goal.loop-init
loop-init c = record {
  runs = λ run d. along_first c.laws.ensures.keys c.laws.ensures.reads c.args.world.now (told c.args.code.now) (home_of c.args.home.now) run c.args.seen.now c.args.stack.now.top d;
  below = refl;
}

pub returns-in-Faults-clause-runs : goal.returns-in-Faults-clause-runs
returns-in-Faults-clause-runs c = λ run d.
    let code = told c.args.code.now in
    let h = home_of c.args.home.now in
    let s = c.loop.stack.top in
    let t = c.run_ahead.new.stack.top in
    let e = stop.Ends (ending.Faults c.in-Faults.kind c.in-Faults.line) in
    let came : GoesAhead code (ahead.Faults c.in-Faults.kind c.in-Faults.line) s t = subst (λ (x : Ahead). GoesAhead code x s t) c.in-Faults.is c.in_ok-ahead.ensures.came in
    stopped c.laws.ensures.keys c.laws.ensures.reads c.args.world.now code h run c.args.seen.now c.loop.seen t e
    (along_ahead c.laws.ensures.keys c.laws.ensures.reads c.args.world.now code h run c.args.seen.now c.loop.seen s (stepped_as h (Some e) t) (came h) (c.loop.invariant.runs run d))

pub returns-in-Some-clause-runs : goal.returns-in-Some-clause-runs
returns-in-Some-clause-runs c = λ run d.
    let code = told c.args.code.now in
    let h = home_of c.args.home.now in
    let i = c.in_ok-instr.instr in
    let s = c.loop.stack.top in
    let t = c.run_ahead.new.stack.top in
    let stands : c.in_ok-ahead.ahead ≡ ahead.Stands = search rules in
    let came_to : GoesAhead code ahead.Stands s t = subst (λ (x : Ahead). GoesAhead code x s t) stands c.in_ok-ahead.ensures.came in
    let has : slice_get code t.pc ≡ Some i = rw c.pc.ensures at c.in_ok-instr.ensures in
    let came : passed (key_result c.args.world.now) (next_of h i.action i.line t) c.loop.seen ≡ (stepped_as h (Some c.in-Some.stop) c.step.new.stack.top, c.step.new.seen) =
    subst (λ (o : Option Stop). passed (key_result c.args.world.now) (next_of h i.action i.line t) c.loop.seen ≡ (stepped_as h o c.step.new.stack.top, c.step.new.seen)) c.in-Some.is c.in_ok-stop.ensures.came in
    stopped c.laws.ensures.keys c.laws.ensures.reads c.args.world.now code h run c.args.seen.now c.step.new.seen c.step.new.stack.top c.in-Some.stop
    (along_step c.laws.ensures.keys c.laws.ensures.reads c.args.world.now code h run c.args.seen.now c.loop.seen c.step.new.seen t i (stepped_as h (Some c.in-Some.stop) c.step.new.stack.top) has came (along_ahead c.laws.ensures.keys c.laws.ensures.reads c.args.world.now code h run c.args.seen.now c.loop.seen s (On t) (came_to h) (c.loop.invariant.runs run d)))

pub loop-preserved : goal.loop-preserved
loop-preserved c =
    let code = told c.args.code.now in
    let h = home_of c.args.home.now in
    let i = c.in_ok-instr.instr in
    let s = c.loop.stack.top in
    let t = c.run_ahead.new.stack.top in
    let stands : c.in_ok-ahead.ahead ≡ ahead.Stands = search rules in
    let came_to : GoesAhead code ahead.Stands s t = subst (λ (x : Ahead). GoesAhead code x s t) stands c.in_ok-ahead.ensures.came in
    let has : slice_get code t.pc ≡ Some i = rw c.pc.ensures at c.in_ok-instr.ensures in
    let none : c.in_ok-stop.field-0 ≡ None = search rules in
    let came : passed (key_result c.args.world.now) (next_of h i.action i.line t) c.loop.seen ≡ (On c.step.new.stack.top, c.step.new.seen) =
    subst (λ (o : Option Stop). passed (key_result c.args.world.now) (next_of h i.action i.line t) c.loop.seen ≡ (stepped_as h o c.step.new.stack.top, c.step.new.seen)) none c.in_ok-stop.ensures.came in
    record {
      runs = λ run d. along_step c.laws.ensures.keys c.laws.ensures.reads c.args.world.now code h run c.args.seen.now c.loop.seen c.step.new.seen t i (On c.step.new.stack.top) has came (along_ahead c.laws.ensures.keys c.laws.ensures.reads c.args.world.now code h run c.args.seen.now c.loop.seen s (On t) (came_to h) (c.loop.invariant.runs run d));
      below = c.in_ok-stop.ensures.below ∙ c.in_ok-ahead.ensures.below ∙ c.loop.invariant.below;
    }
