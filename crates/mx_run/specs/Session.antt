-- What is kept of the bytes read so far.
use Rattle.std.specs.Prelude.{◌≡◌, ℕ, Option, Result, Ok, Err, List}
use Rattle.mx_script.specs.Script.{Command, Taken}
use Rattle.mx_script.specs.Given.{pending_of}
use Rattle.mx_commands.specs.Step.{RunState}
use Rattle.mx_run.specs.Transcript.{Runs, Breaks}
use Rattle.mx_run.specs.declared.stop.Stop.{Stop}
use Rattle.mx_script.specs.declared.commands.Pending.{Pending}

-- commands are answered one after another, or broken off
abbrev pub Answers : RunState → List Command → Result (Unit {0}) Stop → RunState → List ℕ → Type 0
Answers state cs (Ok u) new block = Runs state cs block new
Answers state cs (Err stop) new block = Breaks stop state cs block

-- a line's complete commands are answered, and the one that may go on is kept
abbrev pub TakesLine : RunState → Taken → Result (Option Pending) Stop → RunState → List ℕ → Type 0
TakesLine state t (Ok p) new block = (pending_of p ≡ t.pending) × Runs state t.done block new
TakesLine state t (Err stop) new block = Breaks stop state t.done block
