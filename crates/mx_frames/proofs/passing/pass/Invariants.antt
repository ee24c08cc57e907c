use Rattle.std.proofs.Common.{◌≡◌}
use Rattle.mx_state.specs.Model.{model_of}
use Rattle.mx_memo.specs.Memos.{AreHeld}
use Rattle.mx_runs.specs.Runs.{Run}
use Rattle.mx_node_runs.specs.Halts.{HaltsAs}
use Rattle.mx_frames.specs.Passing.{HaltsPast}
use Rattle.mx_frames.proofs.passing.pass.Given as goal

-- whatever run halted first, this one has gone on with it
abbrev pub invariant-loop : goal.invariant-loop
invariant-loop l = record {
  node : l.current.node ≡ l.fn.running.current.node;
  asks : AreHeld l.memo.held l.current.records.asks;
  halts : (run : Run) → HaltsAs l.fn.running.current.node run l.fn.running.halt l.fn.stack.top → HaltsPast (model_of l.world) l.memo run l.fn.running.current.records (record { current = l.current; halt = l.halt }) l.stack.top × (l.stack.below ≡ l.fn.stack.below);
}
