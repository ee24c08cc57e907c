use Rattle.std.proofs.Common.{◌≡◌, Ok, Err, refl, sym, ◌∙◌, subst, arith}
use Rattle.std.proofs.lemmas.Result.{err_from_is_err_and}
use Rattle.mx_model.specs.Keys.{key_result}
use Rattle.mx_state.specs.Model.{model_of}
use Rattle.mx_state.proofs.Bound.{inputs_end}
use Rattle.mx_frames.specs.Flights.{Flew, IsSoundAfter, first_of}
use Rattle.mx_frames.specs.declared.progress.Progress.{Progress}
use Rattle.mx_frames.proofs.Flown.{flying_broken}
use Rattle.mx_frames.proofs.Stepping.{broken_named, given_named, flown_on}
use Rattle.mx_frames.proofs.step.go_on.Goals as goal

pub loop-init : goal.loop-init
loop-init g c = record {
  sound = c.requires.sound;
  flies = λ q order within f. (f, refl);
  grown = λ start h. h;
  ticks = omega arith;
}

pub step-requires : goal.step-requires
step-requires g c = record { sound = c.loop.invariant.sound }

pub loop-preserved : goal.loop-preserved
loop-preserved g c = record {
  sound = subst (λ (p : Progress). IsSoundAfter c.step.new.memo c.step.new.runs.frames.items (Ok p)) c.in-Going.is c.in_ok-next.ensures.sound;
  flies = λ q order within f.
      let l = c.loop.invariant.flies q order within f in
      flown_on (model_of c.args.setting.now.world.now) q c.step.new.memo c.step.new.runs.stack c.step.new.runs.frames.items _ _ c.step.new.steps c.in-Going.next l.1
      (subst (λ (p : Progress). Flew (model_of c.args.setting.now.world.now) q c.step.new.memo c.step.new.runs.stack c.step.new.runs.frames.items (first_of c.loop.runs.frames.items c.loop.running.current.node) c.step.new.steps (Ok p)) c.in-Going.is
      (c.in_ok-next.ensures.flew q order within l.0));
  grown = λ start h. c.in_ok-next.ensures.grown start (c.loop.invariant.grown start h);
  ticks = (let a = c.loop.invariant.ticks in let b = c.in_ok-next.ensures.ticks in omega (arith, a, b));
}

pub returns-in_err-next-clause-drove : goal.returns-in_err-next-clause-drove
returns-in_err-next-clause-drove g c = λ q order within f.
    let p = err_from_is_err_and c.from_residual.result c.from_residual.ensures.1 in
    let l = c.loop.invariant.flies q order within f in
    rw (p.1, p.2) (broken_named (model_of c.args.setting.now.world.now) q c.step.new.memo c.step.new.steps c.in_err-next.field-0.0 _ _ l.1 (c.in_err-next.ensures.flew q order within l.0))

pub returns-in-Done-clause-drove : goal.returns-in-Done-clause-drove
returns-in-Done-clause-drove g c = λ q order within f.
    let l = c.loop.invariant.flies q order within f in
    given_named (model_of c.args.setting.now.world.now) q c.step.new.memo c.step.new.steps c.in-Done.given _ _ l.1
    (subst (λ (p : Progress). Flew (model_of c.args.setting.now.world.now) q c.step.new.memo c.step.new.runs.stack c.step.new.runs.frames.items (first_of c.loop.runs.frames.items c.loop.running.current.node) c.step.new.steps (Ok p)) c.in-Done.is
    (c.in_ok-next.ensures.flew q order within l.0))

pub returns-in-Done-clause-sound : goal.returns-in-Done-clause-sound
returns-in-Done-clause-sound g c = subst (λ (p : Progress). IsSoundAfter c.step.new.memo c.step.new.runs.frames.items (Ok p)) c.in-Done.is c.in_ok-next.ensures.sound

pub returns-clause-drove : goal.returns-clause-drove
returns-clause-drove g c = λ q order within f.
    flying_broken (model_of c.args.setting.now.world.now) (inputs_end (key_result c.args.setting.now.world.now)) q c.loop.memo c.loop.runs.stack c.loop.runs.frames.items c.loop.running _ c.loop.steps (c.loop.invariant.flies q order within f).0

pub returns-clause-sound : goal.returns-clause-sound
returns-clause-sound g c = c.loop.invariant.sound.sound.ordered
