use Rattle.std.proofs.Common.{◌≡◌, refl, ◌∙◌, subst}
use Rattle.mx_state.specs.Model.{model_of}
use Rattle.mx_suspended.specs.Recorded.{Stays}
use Rattle.mx_binding.specs.Records.{recorded_in}
use Rattle.mx_frames.specs.declared.passing.Passed.{Passed}
use Rattle.mx_frames.specs.declared.passing.Stretch.{Stretch}
use Rattle.mx_frames.specs.Passing.{IsToldThen, Pauses, PassesTo}
use Rattle.mx_frames.proofs.Passes.{then_passes, own_paused}
use Rattle.mx_frames.proofs.passing.pass.Goals as goal

pub loop-init : goal.loop-init
loop-init c = record {
  node = refl;
  asks = c.requires.asks;
  halts = λ run h. (record { rest = run; past = Stays run (recorded_in c.args.memo.now.held c.args.running.current.records); halts = h }, refl);
}

pub loop-preserved : goal.loop-preserved
loop-preserved c = record {
  node = c.in_ok-next.ensures.node ∙ c.loop.invariant.node;
  asks = c.in_ok-next.ensures.asks;
  halts = λ run h.
      subst (λ (x : Passed). PassesTo (model_of c.args.world.now) c.args.memo.now run c.args.running.current.records c.pass_one.new.current x c.pass_one.new.stack.top × (c.pass_one.new.stack.below ≡ c.args.stack.now.below)) c.in-Halts.is
      (then_passes (model_of c.args.world.now) c.args.memo.now run c.args.running.current.records (record { current = c.loop.current; halt = c.loop.halt }) c.pass_one.new.current c.loop.stack c.pass_one.new.stack c.args.stack.now.below c.in_ok-next.field-0 (c.loop.invariant.halts run h) c.in_ok-next.ensures.passes);
}

pub returns-in-Pauses-clause-told : goal.returns-in-Pauses-clause-told
returns-in-Pauses-clause-told c = subst (λ (x : Passed). IsToldThen (model_of c.args.world.now) c.args.memo.now x) c.in-Pauses.is c.in_ok-next.ensures.told

pub returns-in-Pauses-clause-passes : goal.returns-in-Pauses-clause-passes
returns-in-Pauses-clause-passes c = λ run h.
    subst (λ (x : Passed). PassesTo (model_of c.args.world.now) c.args.memo.now run c.args.running.current.records c.pass_one.new.current x c.pass_one.new.stack.top × (c.pass_one.new.stack.below ≡ c.args.stack.now.below)) c.in-Pauses.is
    (then_passes (model_of c.args.world.now) c.args.memo.now run c.args.running.current.records (record { current = c.loop.current; halt = c.loop.halt }) c.pass_one.new.current c.loop.stack c.pass_one.new.stack c.args.stack.now.below c.in_ok-next.field-0 (c.loop.invariant.halts run h) c.in_ok-next.ensures.passes)

pub returns-in-Pauses-clause-own : goal.returns-in-Pauses-clause-own
returns-in-Pauses-clause-own c = λ run h own.
    let at : Stretch = record { current = c.pass_one.new.current; paused = c.in-Pauses.paused } in
    let p : Pauses (model_of c.args.world.now) c.args.memo.now run c.args.running.current.records at c.pass_one.new.stack.top =
    (subst (λ (x : Passed). PassesTo (model_of c.args.world.now) c.args.memo.now run c.args.running.current.records c.pass_one.new.current x c.pass_one.new.stack.top × (c.pass_one.new.stack.below ≡ c.args.stack.now.below)) c.in-Pauses.is
    (then_passes (model_of c.args.world.now) c.args.memo.now run c.args.running.current.records (record { current = c.loop.current; halt = c.loop.halt }) c.pass_one.new.current c.loop.stack c.pass_one.new.stack c.args.stack.now.below c.in_ok-next.field-0 (c.loop.invariant.halts run h) c.in_ok-next.ensures.passes)).0 in
    own_paused (model_of c.args.world.now) c.args.memo.now run c.args.running.current.records c.args.running.current.node at c.pass_one.new.stack.top p
    (c.in_ok-next.ensures.node ∙ c.loop.invariant.node) own
