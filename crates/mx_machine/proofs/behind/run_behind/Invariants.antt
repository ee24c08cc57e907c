use Rattle.std.proofs.Common.{◌≤◌, []}
use Rattle.mx_memo_laws.specs.Laws.{HasGrown}
use Rattle.mx_state.specs.Model.{model_of}
use Rattle.mx_frames.specs.Flights.{IsSound}
use Rattle.mx_machine.specs.Behind.{IsWalking}
use Rattle.mx_machine.proofs.behind.run_behind.Given as goal

-- the evaluation goes on, with no run in flight but that of the node that is asked
abbrev pub invariant-loop : goal.invariant-loop
invariant-loop g l = record {
  sound : IsSound l.memo [] [];
  walking : IsWalking (model_of l.request.world.now) l.request.node.now l.fn.memo l.memo l.request.limit l.fn.steps l.steps l.walk.led l.walk.records;
  grown : HasGrown l.fn.memo l.memo;
  ticks : l.fn.steps ≤ l.steps;
}
