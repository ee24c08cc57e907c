use Rattle.std.proofs.Common.{refl, subst}
use Rattle.mx_model.specs.Keys.{key_result}
use Rattle.mx_state.specs.Model.{model_of}
use Rattle.mx_state.proofs.Bound.{inputs_end}
use Rattle.mx_frames.proofs.Ended.{ready, at_hand, held_as, sound_held, sound_down, gives_broken, gives_on}
use Rattle.mx_frames.proofs.Gives.{given_full}
use Rattle.mx_memo.specs.declared.refusal.HoldRefusal.{HoldRefusal}
use Rattle.mx_memo.specs.declared.refusal.HoldRefusal.TheVariants.{Full}
use Rattle.mx_frames.specs.Flights.{stretch_giving}
use Rattle.mx_frames.specs.Giving.{IsHeldThen}
use Rattle.mx_frames.proofs.give.give.Goals as goal

pub hold-requires : goal.hold-requires
hold-requires c = record { ready = ready c.args.memo.now c.args.runs.now.frames.items c.args.current c.args.reply c.requires.sound }

pub returns-in-Err-Full-clause-flew : goal.returns-in-Err-Full-clause-flew
returns-in-Err-Full-clause-flew c = λ q now p.
    let l : IsHeldThen c.args.memo.now c.hold.new.memo Full = subst (λ (y : HoldRefusal). IsHeldThen c.args.memo.now c.hold.new.memo y) c.in-Err-Full.field-0-is c.in-Err-Full.ensures.lost in
    given_full (model_of c.args.world.now) (inputs_end (key_result c.args.world.now)) q now c.args.memo.now c.args.runs.now.stack c.args.runs.now.frames.items (stretch_giving c.args.current c.args.reply) c.args.reply p refl
    c.hold.new.memo _ l.0.held l.1

pub returns-in-Ok-hand_down-clause-flew : goal.returns-in-Ok-hand_down-clause-flew
returns-in-Ok-hand_down-clause-flew c = λ q now p.
    gives_on (model_of c.args.world.now) (inputs_end (key_result c.args.world.now)) q now c.args.memo.now c.hold.new.memo c.args.runs.now.stack c.args.runs.now.frames.items c.args.current c.args.reply c.in-Ok.given c.requires.sound c.in-Ok.ensures.held p
    c.hand_down.new.runs.stack c.hand_down.new.runs.frames.items c.in-Ok-hand_down.progress c.in-Ok-hand_down.ensures.goes

pub returns-in-Ok-hand_down-clause-sound : goal.returns-in-Ok-hand_down-clause-sound
returns-in-Ok-hand_down-clause-sound c =
    sound_down c.hold.new.memo c.hand_down.new.runs.frames.items c.in-Ok.given c.in-Ok-hand_down.progress
    (held_as c.args.memo.now c.hold.new.memo c.args.runs.now.frames.items c.args.current c.args.reply c.in-Ok.given c.requires.sound c.in-Ok.ensures.held)
    (c.in-Ok-hand_down.ensures.sound c.hold.new.memo
    (at_hand c.args.memo.now c.hold.new.memo c.args.runs.now.frames.items c.args.current c.args.reply c.in-Ok.given c.requires.sound c.in-Ok.ensures.held)
    (sound_held c.args.memo.now c.hold.new.memo c.args.runs.now.frames.items c.args.current c.args.reply c.in-Ok.given c.requires.sound c.in-Ok.ensures.held))

pub returns-in-Err-clause-flew : goal.returns-in-Err-clause-flew
returns-in-Err-clause-flew c = λ q now p.
    gives_broken (model_of c.args.world.now) (inputs_end (key_result c.args.world.now)) q now c.args.memo.now c.hold.new.memo c.args.runs.now.stack c.args.runs.now.frames.items c.args.current c.args.reply c.in-Ok.given c.requires.sound c.in-Ok.ensures.held p _
