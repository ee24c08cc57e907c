use Rattle.std.proofs.Common.{◌∙◌, refl, ap, subst}
use Rattle.mx_model.specs.Keys.{key_result}
use Rattle.mx_state.specs.Model.{model_of}
use Rattle.mx_state.proofs.Bound.{inputs_end}
use Rattle.mx_lookup.specs.declared.ending.Ending.{Ending}
use Rattle.mx_frames.specs.declared.passing.Paused.TheVariants as paused
use Rattle.mx_frames.specs.Flights.{IsPaused, stretch_ending}
use Rattle.mx_frames.proofs.Flown.{paused_fault, paused_no_such, paused_wrong_count}
use Rattle.mx_frames.proofs.end.end.Goals as goal

pub returns-in-Gives-clause-flew : goal.returns-in-Gives-clause-flew
returns-in-Gives-clause-flew c = λ q now p.
    c.give.ensures.flew q now (subst (λ (e : Ending). IsPaused (model_of c.args.world.now) q c.args.memo.now c.args.runs.now.stack c.args.runs.now.frames.items (stretch_ending c.args.current e) now) c.in-Gives.is p)

pub returns-in_ok-node-in-Faults-clause-flew : goal.returns-in_ok-node-in-Faults-clause-flew
returns-in_ok-node-in-Faults-clause-flew c = λ q now p.
    paused_fault (model_of c.args.world.now) (inputs_end (key_result c.args.world.now)) q c.args.memo.now c.args.runs.now.stack c.args.runs.now.frames.items (stretch_ending c.args.current c.args.ending) now p
    c.in-Faults.kind c.in-Faults.line c.in_ok-node-in-Faults.node _ (c.in_ok-node-in-Faults.ensures ∙ c.get.ensures) refl (ap (λ (e : Ending). paused.Ends e) c.in-Faults.is)

pub returns-in-NoSuch-clause-flew : goal.returns-in-NoSuch-clause-flew
returns-in-NoSuch-clause-flew c = λ q now p.
    paused_no_such (model_of c.args.world.now) (inputs_end (key_result c.args.world.now)) q c.args.memo.now c.args.runs.now.stack c.args.runs.now.frames.items (stretch_ending c.args.current c.args.ending) now p
    _ refl (ap (λ (e : Ending). paused.Ends e) c.in-NoSuch.is)

pub returns-in-WrongCount-clause-flew : goal.returns-in-WrongCount-clause-flew
returns-in-WrongCount-clause-flew c = λ q now p.
    paused_wrong_count (model_of c.args.world.now) (inputs_end (key_result c.args.world.now)) q c.args.memo.now c.args.runs.now.stack c.args.runs.now.frames.items (stretch_ending c.args.current c.args.ending) now p
    _ refl (ap (λ (e : Ending). paused.Ends e) c.in-WrongCount.is)
