-- Laws of what the commands of a script write.
use Rattle.std.specs.Prelude.{◌≡◌, ℕ, List, [], ◌∷◌, Option}
use Rattle.mx_script.specs.Script.{Command}
use Rattle.mx_outside.specs.Files.{FileMap}
use Rattle.mx_commands.specs.Step.{RunState}
use Rattle.mx_commands.specs.Laws.{IsFaithful, AreRunsAlike, StepSays}
use Rattle.mx_run.specs.Script.{commands}
use Rattle.mx_run.specs.Transcript.{Runs, Transcript, begin}

-- none of its evaluations is too deep or full, and it asks for no file that is not told
abbrev pub RunsSay : (s : RunState) (cs : List Command) (output : List ℕ) (new : RunState) → Runs s cs output new → Type 0
RunsSay s [] output new r = Unit {0}
RunsSay s (c ∷ cs) output new r = StepSays s c r.0 r.2 r.4 × RunsSay r.2 cs r.1 new r.5

-- from states that are alike and faithful, commands one after the other write one output and leave states that are alike
abbrev pub OneOutput : Type 0
OneOutput = (s t : RunState) (cs : List Command) (output other : List ℕ) (new next : RunState) → IsFaithful s.engine → IsFaithful t.engine → AreRunsAlike s t → (x : Runs s cs output new) → Runs t cs other next → RunsSay s cs output new x
    → (output ≡ other) × AreRunsAlike new next

-- a script has one output, and leaves one state of the files
abbrev pub OneTranscript : Type 0
OneTranscript = (script : List ℕ) (files : Option FileMap) (output other : List ℕ) (after later : Option FileMap) (x : Transcript script files output after) → Transcript script files other later → RunsSay (begin files) (commands script) output x.0 x.1
    → (output ≡ other) × (after ≡ later)
