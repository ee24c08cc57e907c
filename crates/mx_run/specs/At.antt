-- Where a session stands in a script, and how it ends. `first` are the files that the script began with.
use Rattle.std.specs.Prelude.{◌≡◌, ◌⊎◌, ℕ, Bool, List, Option, None, Result, Ok, Err, length}
use Rattle.mx_outside.specs.Files.{FileMap}
use Rattle.mx_run.specs.Script.{pending_after, complete_commands, commands}
use Rattle.mx_script.specs.Script.{Command, split_lines}
use Rattle.mx_commands.specs.Step.{RunState, run_state}
use Rattle.mx_run.specs.Transcript.{Runs, Breaks, begin, IsWithin, IsBrokenOff, IsBrokenOffAtEnd, IsCut, IsOutput, Transcript}
use Rattle.mx_script.specs.Given.{pending_of}
use Rattle.mx_run.specs.declared.session.Session.{Session}
use Rattle.mx_run.specs.declared.stop.Stop.{Stop}
use Rattle.mx_run.specs.declared.stop.Stop.TheVariants.{ReadFault, FileFault, WriteFault, NoMemory, OverLimit}

-- after these bytes are read and those written: the open line, the number of lines before it, what may go on and the state
pub record IsAfter (first : Option FileMap) (line : List ℕ) (lines size : ℕ) (pending : Option Command) (state : RunState) (read written : List ℕ) : Type 0 where
  pub open_line : line ≡ (split_lines read).rest
  pub lines_before : lines ≡ length (split_lines read).whole
  pub bytes : size ≡ length read
  pub may_go_on : pending ≡ pending_after 1 None (split_lines read).whole
  pub blocks : Runs (begin first) (complete_commands read) written state
  pub within : IsWithin read

-- a session among the files as they are now
abbrev pub At : Option FileMap → Option FileMap → Session → List ℕ → List ℕ → Type 0
At first now s read written = IsAfter first s.line.items s.lines s.size (pending_of s.pending) (run_state s.interpreter.engine now) read written

-- while it reads, a session stops so
abbrev pub Halts : Option FileMap → Stop → List ℕ → List ℕ → Type 0
Halts first ReadFault read written = ⊥
Halts first FileFault read written = IsBrokenOff first FileFault read written
Halts first WriteFault read written = IsBrokenOff first WriteFault read written
Halts first NoMemory read written = IsBrokenOff first NoMemory read written
Halts first OverLimit read written = IsCut first read written

-- a session goes on, or stops
abbrev pub GoesOn : Option FileMap → Option FileMap → Session → Result (Unit {0}) Stop → List ℕ → List ℕ → Type 0
GoesOn first now s (Ok u) read written = At first now s read written
GoesOn first now s (Err stop) read written = Halts first stop read written

-- a script's end is answered
abbrev pub Finishes : Option FileMap → Option FileMap → Result (Unit {0}) Stop → List ℕ → List ℕ → Type 0
Finishes first now (Ok u) read written = Transcript read first written now
Finishes first now (Err stop) read written = Breaks stop (begin first) (commands read) written

-- A run is broken off, before the end of the script or at it.
abbrev pub IsCutShort : Option FileMap → Stop → Bool → List ℕ → List ℕ → Type 0
IsCutShort first stop ended read written = IsBrokenOff first stop read written ⊎ IsBrokenOffAtEnd first stop ended read written

-- A run ends so, where the end of the script was told or not. A read fault comes after all that was complete is answered, one of a file
-- after all that stands before the command that asks for it, and a limit after all that was complete before it.
abbrev pub Ends : Option FileMap → Option FileMap → Bool → Result (Unit {0}) Stop → List ℕ → List ℕ → Type 0
Ends first now ended (Ok u) read written = IsWithin read × Transcript read first written now
Ends first now ended (Err ReadFault) read written = IsWithin read × IsOutput first (complete_commands read) written
Ends first now ended (Err FileFault) read written = IsCutShort first FileFault ended read written
Ends first now ended (Err WriteFault) read written = IsCutShort first WriteFault ended read written
Ends first now ended (Err NoMemory) read written = IsCutShort first NoMemory ended read written
Ends first now ended (Err OverLimit) read written = IsCut first read written
