use Rattle.std.proofs.Common.{◌≡◌}
use Rattle.mx_runs.specs.Runs.{Run}
use Rattle.mx_code.specs.Told.{told}
use Rattle.mx_code_law.specs.States.{On}
use Rattle.mx_code_law.specs.Machine.{Does}
use Rattle.mx_lookup.specs.Homes.{home_of}
use Rattle.mx_interpreter.proofs.Past.{Along}
use Rattle.mx_interpreter.proofs.run.run_code.Given as goal

-- whatever run the first state does, this one does the rest of it
abbrev pub invariant-loop : goal.invariant-loop
invariant-loop l = record {
  runs : (run : Run) → Does (told l.code) (home_of l.home) l.fn.stack.top run → Along l.world (told l.code) (home_of l.home) run l.fn.seen l.seen (On l.stack.top);
  below : l.stack.below ≡ l.fn.stack.below;
}
