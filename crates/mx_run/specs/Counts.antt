-- How often calls outside have failed, before and after a call of a session.
use Rattle.std.specs.Prelude.{◌≡◌, ◌≤◌, ℕ, Result, Ok, Err}
use Rattle.mx_outside.specs.Outside.{Rose}
use Rattle.mx_run.specs.declared.stop.Stop.{Stop}
use Rattle.mx_run.specs.declared.stop.Stop.TheVariants.{ReadFault, FileFault, WriteFault, NoMemory, OverLimit}

-- writes of the output, and reads and writes of files
pub record Counts : Type 0 where
  pub output : ℕ
  pub files_read : ℕ
  pub files_written : ℕ

abbrev pub counts : ℕ → ℕ → ℕ → Counts
counts output reads writes = record { output = output; files_read = reads; files_written = writes }

-- none has risen
pub record NoneFailed (old new : Counts) : Type 0 where
  pub output : new.output ≡ old.output
  pub files_read : new.files_read ≡ old.files_read
  pub files_written : new.files_written ≡ old.files_written

-- none fell
pub record NoneFell (old new : Counts) : Type 0 where
  pub output : old.output ≤ new.output
  pub files_read : old.files_read ≤ new.files_read
  pub files_written : old.files_written ≤ new.files_written

-- reads of files have failed once more, and nothing else
pub record FileReadFailed (old new : Counts) : Type 0 where
  pub rose : Rose old.files_read new.files_read
  pub stayed : old.files_read ≤ new.files_read
  pub output : new.output ≡ old.output
  pub files_written : new.files_written ≡ old.files_written

-- writes of the output have, and nothing else
pub record OutputFailed (old new : Counts) : Type 0 where
  pub rose : Rose old.output new.output
  pub stayed : old.output ≤ new.output
  pub files_read : new.files_read ≡ old.files_read
  pub files_written : new.files_written ≡ old.files_written

-- After a stop the one count of its cause has risen. Want of memory has none.
abbrev pub IsStoppedAfter : Stop → Counts → Counts → Type 0
IsStoppedAfter ReadFault old new = NoneFailed old new
IsStoppedAfter FileFault old new = FileReadFailed old new
IsStoppedAfter WriteFault old new = OutputFailed old new
IsStoppedAfter NoMemory old new = NoneFell old new
IsStoppedAfter OverLimit old new = NoneFailed old new

-- so after a call that ended so
abbrev pub AreAfter : {T : Type 0} → Result T Stop → Counts → Counts → Type 0
AreAfter (Ok x) old new = NoneFailed old new
AreAfter (Err stop) old new = IsStoppedAfter stop old new

-- while it takes bytes of a line, a session stops for these alone
abbrev pub CanStopInside : Stop → Type 0
CanStopInside NoMemory = Unit {0}
CanStopInside OverLimit = Unit {0}
CanStopInside _ = ⊥
