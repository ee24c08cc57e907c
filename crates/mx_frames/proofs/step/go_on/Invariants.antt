use Rattle.std.proofs.Common.{◌≡◌, ◌≤◌}
use Rattle.mx_memo.specs.Memos.{Memory}
use Rattle.mx_state.specs.Model.{model_of}
use Rattle.mx_memo_laws.specs.Laws.{HasGrown}
use Rattle.mx_frames.specs.Flights.{AsksInOrder, Flies, IsSoundWith, IsWithin, Work, first_of}
use Rattle.mx_frames.proofs.step.go_on.Given as goal

-- what flew flies on, and the first in flight is the one that was
abbrev pub invariant-loop : goal.invariant-loop
invariant-loop g l = record {
  sound : IsSoundWith l.memo l.runs.frames.items l.running;
  flies : (q : Work) → AsksInOrder (model_of l.setting.world.now) → IsWithin q l.setting.limit l.setting.below → Flies (model_of l.setting.world.now) q l.fn.memo l.fn.runs.stack l.fn.runs.frames.items l.fn.running l.fn.steps
      → Flies (model_of l.setting.world.now) q l.memo l.runs.stack l.runs.frames.items l.running l.steps × (first_of l.runs.frames.items l.running.current.node ≡ first_of l.fn.runs.frames.items l.fn.running.current.node);
  grown : (start : Memory) → HasGrown start l.fn.memo → HasGrown start l.memo;
  ticks : l.fn.steps ≤ l.steps;
}
