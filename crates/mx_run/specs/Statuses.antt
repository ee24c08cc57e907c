-- How a run ends, and by which status.
use Rattle.std.specs.Prelude.{◌≡◌, ◌≤◌, ℕ, Bool, List, Option, Result, Ok, Err}
use Rattle.std.specs.Bool.{IsTrue}
use Rattle.std.specs.Io.KnownBytes.{IsAtEnd}
use Rattle.mx_outside.specs.Outside.{Rose}
use Rattle.mx_outside.specs.Files.{FileMap}
use Rattle.mx_run.specs.Transcript.{Traded}
use Rattle.mx_run.specs.At.{Ends}
use Rattle.mx_run.specs.Counts.{Counts, counts, NoneFailed, NoneFell, FileReadFailed, OutputFailed}
use Rattle.mx_run.specs.declared.stop.Stop.{Stop}
use Rattle.mx_run.specs.declared.stop.Stop.TheVariants.{ReadFault, FileFault, WriteFault, NoMemory, OverLimit}

-- What is told of a script at a moment: the bytes that are left to read, whether their end was told, and how often a read has failed.
pub record Source : Type 0 where
  pub left : Option (List ℕ)
  pub ended : Bool
  pub failed : ℕ

-- of an output: the bytes that were taken, and how often a write has failed
pub record Sink : Type 0 where
  pub taken : Option (List ℕ)
  pub failed : ℕ

-- and of a working folder: the files, and how often a read and a write of one have failed
pub record Folder : Type 0 where
  pub held : Option FileMap
  pub reads_failed : ℕ
  pub writes_failed : ℕ

-- all that is outside
pub record Outside : Type 0 where
  pub script : Source
  pub folder : Folder
  pub output : Sink

abbrev pub source : Option (List ℕ) → Bool → ℕ → Source
source left ended failed = record { left = left; ended = ended; failed = failed }

abbrev pub sink : Option (List ℕ) → ℕ → Sink
sink taken failed = record { taken = taken; failed = failed }

abbrev pub folder : Option FileMap → ℕ → ℕ → Folder
folder held reads writes = record { held = held; reads_failed = reads; writes_failed = writes }

abbrev pub outside : Source → Folder → Sink → Outside
outside script folder output = record { script = script; folder = folder; output = output }

abbrev pub status_of : Result (Unit {0}) Stop → ℕ
status_of (Ok u) = 0
status_of (Err ReadFault) = 3
status_of (Err FileFault) = 3
status_of (Err WriteFault) = 4
status_of (Err NoMemory) = 5
status_of (Err OverLimit) = 6

abbrev pub counts_of : Outside → Counts
counts_of o = counts o.output.failed o.folder.reads_failed o.folder.writes_failed

-- no count of faults fell between two moments
pub record NoCountFell (old new : Outside) : Type 0 where
  pub script : old.script.failed ≤ new.script.failed
  pub others : NoneFell (counts_of old) (counts_of new)

-- no read of the script failed
abbrev pub IsReadWell : Outside → Outside → Type 0
IsReadWell old new = new.script.failed ≡ old.script.failed

-- A run ends so for a cause: what the first fault was, and no other count rose. Want of memory has none.
abbrev pub IsCaused : Result (Unit {0}) Stop → Outside → Outside → Type 0
IsCaused (Ok u) old new = IsReadWell old new × NoneFailed (counts_of old) (counts_of new) × IsTrue new.script.ended × IsAtEnd new.script.left
IsCaused (Err ReadFault) old new = Rose old.script.failed new.script.failed × NoneFailed (counts_of old) (counts_of new)
IsCaused (Err FileFault) old new = IsReadWell old new × FileReadFailed (counts_of old) (counts_of new)
IsCaused (Err WriteFault) old new = IsReadWell old new × OutputFailed (counts_of old) (counts_of new)
IsCaused (Err NoMemory) old new = Unit {0}
IsCaused (Err OverLimit) old new = IsReadWell old new × NoneFailed (counts_of old) (counts_of new)

-- a run ends so: with the output that is owed then and for its cause; no file changes
pub record HasRun (ending : Result (Unit {0}) Stop) (old new : Outside) : Type 0 where
  pub output : Traded old.script.left new.script.left old.output.taken new.output.taken (Ends old.folder.held new.folder.held new.script.ended ending)
  pub cause : IsCaused ending old new
  pub later : NoCountFell old new
  pub files : new.folder.held ≡ old.folder.held

-- a run ends by this status
pub record RunsTo (status : ℕ) (old new : Outside) : Type 0 where
  pub ending : Result (Unit {0}) Stop
  pub told : status ≡ status_of ending
  pub run : HasRun ending old new
