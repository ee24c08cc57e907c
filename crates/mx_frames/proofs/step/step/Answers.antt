use Rattle.std.proofs.lemmas.Result.{err_from_is_err_and}
use Rattle.std.proofs.Common.{Ok, Err}
use Rattle.mx_model.specs.Keys.{key_result}
use Rattle.mx_state.specs.Model.{model_of}
use Rattle.mx_state.proofs.Bound.{inputs_end}
use Rattle.mx_frames.specs.Flights.{stretch_asking}
use Rattle.mx_frames.proofs.Stepping.{broken_named, ends_flown, flown_on, paused_sound, pushed_sound, waits_flown}
use Rattle.mx_frames.proofs.step.step.Goals as goal

pub returns-in-Ends-clause-flew : goal.returns-in-Ends-clause-flew
returns-in-Ends-clause-flew g c = λ q order within f.
    ends_flown (model_of c.args.setting.now.world.now) (inputs_end (key_result c.args.setting.now.world.now)) q c.args.memo.now c.args.runs.now.stack c.pass.new.stack c.args.runs.now.frames.items c.args.running c.in_ok-current.field-0 c.args.steps.now
    c.in_ok-current.ensures.node c.in_ok-current.ensures.passes c.in_ok-current.ensures.own
    c.in-Ends.ending c.in-Ends.is c.end.new.memo c.end.new.runs.stack c.end.new.runs.frames.items c.end.result c.end.ensures.flew f

pub begin-requires-clause-sound : goal.begin-requires-clause-sound
begin-requires-clause-sound g c =
    pushed_sound c.args.memo.now c.args.runs.now.frames.items c.wait.new.runs.frames.items (stretch_asking c.in_ok-current.field-0.current c.in-Asks.asked)
    (paused_sound c.args.memo.now c.args.runs.now.frames.items c.args.running (stretch_asking c.in_ok-current.field-0.current c.in-Asks.asked) c.requires.sound c.in_ok-current.ensures.node c.in_ok-current.ensures.asks)
    c.in_ok-node-in-Asks.ensures.pushed

pub returns-in_err-node-in-Asks-clause-flew : goal.returns-in_err-node-in-Asks-clause-flew
returns-in_err-node-in-Asks-clause-flew g c = λ q order within f.
    let p = err_from_is_err_and c.from_residual-in_err-node-in-Asks.result c.from_residual-in_err-node-in-Asks.ensures.1 in
    rw (p.1, p.2)
    (waits_flown (model_of c.args.setting.now.world.now) (inputs_end (key_result c.args.setting.now.world.now)) q c.args.memo.now c.args.runs.now.stack c.pass.new.stack c.args.runs.now.frames.items c.args.running c.in_ok-current.field-0 c.args.steps.now
    c.in_ok-current.ensures.node c.in_ok-current.ensures.passes c.in_ok-current.ensures.own
    c.in-Asks.asked c.in-Asks.is c.wait.new.runs.frames.items c.wait.new.runs.stack (Err c.in_err-node-in-Asks.field-0.0)
    (c.in_err-node-in-Asks.ensures.waited (model_of c.args.setting.now.world.now) q c.args.memo.now c.args.steps.now (inputs_end (key_result c.args.setting.now.world.now)) order within
    (paused_sound c.args.memo.now c.args.runs.now.frames.items c.args.running (stretch_asking c.in_ok-current.field-0.current c.in-Asks.asked) c.requires.sound c.in_ok-current.ensures.node c.in_ok-current.ensures.asks)) f)

pub returns-in_err-begun-in-Asks-clause-flew : goal.returns-in_err-begun-in-Asks-clause-flew
returns-in_err-begun-in-Asks-clause-flew g c = λ q order within f.
    let p = err_from_is_err_and c.from_residual-in_err-begun-in-Asks.result c.from_residual-in_err-begun-in-Asks.ensures.1 in
    let w =
    waits_flown (model_of c.args.setting.now.world.now) (inputs_end (key_result c.args.setting.now.world.now)) q c.args.memo.now c.args.runs.now.stack c.pass.new.stack c.args.runs.now.frames.items c.args.running c.in_ok-current.field-0 c.args.steps.now
    c.in_ok-current.ensures.node c.in_ok-current.ensures.passes c.in_ok-current.ensures.own
    c.in-Asks.asked c.in-Asks.is c.wait.new.runs.frames.items c.wait.new.runs.stack (Ok c.in_ok-node-in-Asks.node)
    (c.in_ok-node-in-Asks.ensures.waited (model_of c.args.setting.now.world.now) q c.args.memo.now c.args.steps.now (inputs_end (key_result c.args.setting.now.world.now)) order within
    (paused_sound c.args.memo.now c.args.runs.now.frames.items c.args.running (stretch_asking c.in_ok-current.field-0.current c.in-Asks.asked) c.requires.sound c.in_ok-current.ensures.node c.in_ok-current.ensures.asks)) f in
    rw (p.1, p.2)
    (broken_named (model_of c.args.setting.now.world.now) q c.begin.new.memo c.begin.new.steps c.in_err-begun-in-Asks.field-0.0 _ _ w.1 (c.in_err-begun-in-Asks.ensures.begins q w.0))

pub returns-in_ok-begun-in-Asks-clause-flew : goal.returns-in_ok-begun-in-Asks-clause-flew
returns-in_ok-begun-in-Asks-clause-flew g c = λ q order within f.
    let w =
    waits_flown (model_of c.args.setting.now.world.now) (inputs_end (key_result c.args.setting.now.world.now)) q c.args.memo.now c.args.runs.now.stack c.pass.new.stack c.args.runs.now.frames.items c.args.running c.in_ok-current.field-0 c.args.steps.now
    c.in_ok-current.ensures.node c.in_ok-current.ensures.passes c.in_ok-current.ensures.own
    c.in-Asks.asked c.in-Asks.is c.wait.new.runs.frames.items c.wait.new.runs.stack (Ok c.in_ok-node-in-Asks.node)
    (c.in_ok-node-in-Asks.ensures.waited (model_of c.args.setting.now.world.now) q c.args.memo.now c.args.steps.now (inputs_end (key_result c.args.setting.now.world.now)) order within
    (paused_sound c.args.memo.now c.args.runs.now.frames.items c.args.running (stretch_asking c.in_ok-current.field-0.current c.in-Asks.asked) c.requires.sound c.in_ok-current.ensures.node c.in_ok-current.ensures.asks)) f in
    flown_on (model_of c.args.setting.now.world.now) q c.begin.new.memo c.begin.new.runs.stack c.begin.new.runs.frames.items _ _ c.begin.new.steps c.in_ok-begun-in-Asks.begun w.1 (c.in_ok-begun-in-Asks.ensures.begins q w.0)
