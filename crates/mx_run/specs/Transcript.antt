-- Runs of the commands of a script.
use Rattle.std.specs.Prelude.{◌≡◌, ◌≤◌, ℕ, Bool, List, [], ◌∷◌, ◌++◌, Option, length}
use Rattle.std.specs.Bool.{IsTrue}
use Rattle.std.specs.List.{AllByRecursion}
use Rattle.std.specs.Io.KnownBytes.{prepend_known, append_known}
use Rattle.mx_outside.specs.Files.{FileMap}
use Rattle.mx_run.specs.Script.{complete_commands, commands}
use Rattle.mx_script.specs.Script.{Command, split_lines}
use Rattle.mx_engine.specs.Engine.{first_state}
use Rattle.mx_commands.specs.Step.{RunState, run_state, Step, AsksFile}
use Rattle.mx_run.specs.declared.stop.Stop.{Stop}
use Rattle.mx_run.specs.declared.stop.Stop.TheVariants.{ReadFault, FileFault, WriteFault, NoMemory, OverLimit}

-- the commands write this output, one block after another, and lead from one state to another
abbrev pub Runs : RunState → List Command → List ℕ → RunState → Type 0
Runs state [] output new = (output ≡ []) × (new ≡ state)
Runs state (c ∷ cs) output new =
    (block : List ℕ) × (rest : List ℕ) × (mid : RunState) × (output ≡ block ++ rest) × Step state c block mid × Runs mid cs rest new

-- what a run begins with: the new model, nothing held, and these files, where they are told
abbrev pub begin : Option FileMap → RunState
begin files = run_state first_state files

-- the output of these commands, from the beginning
abbrev pub IsOutput : Option FileMap → List Command → List ℕ → Type 0
IsOutput files cs output = (new : RunState) × Runs (begin files) cs output new

-- the output of a script among these files, one block for each command, and the files that it leaves
abbrev pub Transcript : List ℕ → Option FileMap → List ℕ → Option FileMap → Type 0
Transcript script files output after = (new : RunState) × Runs (begin files) (commands script) output new × (new.files ≡ after)

-- the output of the first of these commands begins so
pub record Begins (state : RunState) (cs : List Command) (output : List ℕ) : Type 0 where
  pub first : List Command
  pub others : List Command
  pub is : cs ≡ first ++ others
  pub rest : List ℕ
  pub new : RunState
  pub runs : Runs state first (output ++ rest) new

-- one of these commands asks for a file, and the output is that of the commands in front of it
pub record Fails (state : RunState) (cs : List Command) (output : List ℕ) : Type 0 where
  pub first : List Command
  pub command : Command
  pub others : List Command
  pub is : cs ≡ first ++ (command ∷ others)
  pub asks : AsksFile command.text
  pub new : RunState
  pub runs : Runs state first output new

-- these commands are broken off so
abbrev pub Breaks : Stop → RunState → List Command → List ℕ → Type 0
Breaks ReadFault state cs output = ⊥
Breaks FileFault state cs output = Fails state cs output
Breaks WriteFault state cs output = Begins state cs output
Breaks NoMemory state cs output = Begins state cs output
Breaks OverLimit state cs output = ⊥

-- no line has more than 65,536 bytes, its CR counted, and all together are at most 16,777,216
pub record IsWithin (read : List ℕ) : Type 0 where
  pub size : length read ≤ 16777216
  pub whole : AllByRecursion (λ line. length line ≤ 65536) (split_lines read).whole
  pub rest : length (split_lines read).rest ≤ 65536

-- a limit is passed at a byte of what is read, and the output is that of the commands complete before it
pub record IsCut (files : Option FileMap) (read written : List ℕ) : Type 0 where
  pub before : List ℕ
  pub byte : ℕ
  pub after : List ℕ
  pub is : read ≡ before ++ byte ∷ after
  pub within : IsWithin before
  pub passes : IsWithin (before ++ byte ∷ []) → ⊥
  pub output : IsOutput files (complete_commands before) written

-- What was read is within the limits up to some byte, and the commands that are complete there are broken off so.
pub record IsBrokenOff (files : Option FileMap) (stop : Stop) (read written : List ℕ) : Type 0 where
  pub before : List ℕ
  pub after : List ℕ
  pub is : read ≡ before ++ after
  pub within : IsWithin before
  pub output : Breaks stop (begin files) (complete_commands before) written

-- The end was told, all that was read is within the limits, and all its commands are broken off so.
pub record IsBrokenOffAtEnd (files : Option FileMap) (stop : Stop) (ended : Bool) (read written : List ℕ) : Type 0 where
  pub told : IsTrue ended
  pub within : IsWithin read
  pub output : Breaks stop (begin files) (commands read) written

-- A call read some bytes and wrote some, where these are told, and they are so.
pub record Traded (left_old left_new taken_old taken_new : Option (List ℕ)) (P : List ℕ → List ℕ → Type 0) : Type 0 where
  pub read : List ℕ
  pub written : List ℕ
  pub left : left_old ≡ prepend_known read left_new
  pub taken : taken_new ≡ append_known taken_old written
  pub holds : P read written

-- A call wrote some bytes, where these are told, and they are so.
pub record Wrote (old new : Option (List ℕ)) (P : List ℕ → Type 0) : Type 0 where
  pub written : List ℕ
  pub taken : new ≡ append_known old written
  pub holds : P written
