-- What stays kept between evaluations.
use Rattle.std.specs.Prelude.{◌≡◌, ◌<◌, Bool, [], length}
use Rattle.mx_edit.specs.declared.key.Key.{Key}
use Rattle.mx_edit.specs.declared.key.KeyResult.{KeyResult}
use Rattle.mx_edit.specs.declared.scope.Scope.{Scope}
use Rattle.mx_vertices.specs.Kept.{IsTouched, HasChanged, IsToGo, Sifts}
use Rattle.mx_invalidation.specs.Stamps.{renumbered}
use Rattle.mx_memo.specs.Memos.{Memory, nothing_held}
use Rattle.mx_runs.specs.Runs.{Model}
use Rattle.mx_runs.specs.Inputs.{InputsEnd}
use Rattle.mx_runs.specs.Support.{with_look, TestsAreCovered}
use Rattle.mx_answers.specs.Retention.{Retains, Clears, IsInScope, Tells}
use Rattle.mx_memo_laws.specs.Entries.{entries_of, IsOrdered, IsKept}
use Rattle.mx_memo_laws.specs.Laws.{HasGrown, test_of}

-- nothing is kept for every model
abbrev pub NothingIsKept : Type 0
NothingIsKept = (model : Model) → IsKept model nothing_held

-- what is left is kept after the edit, and is what the edit retains
pub record IsKeptByEdit (model : Model) (other : Key → KeyResult) (old new : Memory) : Type 0 where
  pub kept : IsKept (with_look model other) new
  pub retains : Retains model other (entries_of old.held) (entries_of new.held)

-- a memo that drops the nodes that a changed key touches is kept after the edit
abbrev pub EditKeeps : Type 0
EditKeeps = (model : Model) (other : Key → KeyResult) (changed : Key → Bool) (old new : Memory) → InputsEnd model → InputsEnd (with_look model other) → TestsAreCovered model → Tells model.look other changed → IsKept model old → Sifts (IsTouched (HasChanged changed) old.held) old.held new.held → new.last ≡ old.last → new.begun ≡ old.begun → IsKeptByEdit model other old new

-- what is left is kept, and is what the clearing keeps
pub record IsKeptByClearing (model : Model) (scope : Scope) (old new : Memory) : Type 0 where
  pub kept : IsKept model new
  pub clears : Clears model (IsInScope scope) (entries_of old.held) (entries_of new.held)

-- a memo that drops the nodes of a scope, and those that reach them, is kept
abbrev pub ClearingKeeps : Type 0
ClearingKeeps = (model : Model) (scope : Scope) (old new : Memory) → InputsEnd model → IsKept model old → Sifts (IsTouched (IsToGo (test_of scope)) old.held) old.held new.held → new.last ≡ old.last → new.begun ≡ old.begun → IsKeptByClearing model scope old new

-- it is kept, and holds what it held at the start
pub record IsKeptAsBefore (model : Model) (start new : Memory) : Type 0 where
  pub kept : IsKept model new
  pub same : entries_of new.held ≡ entries_of start.held

-- a roll-back to the start of an evaluation keeps what was kept then
abbrev pub RollBackKeeps : Type 0
RollBackKeeps = (model : Model) (start old new : Memory) → IsKept model start → IsOrdered old → HasGrown start old → Sifts (IsTouched (λ r. start.last < r.stamp) old.held) old.held new.held → new.last ≡ old.last → new.begun ≡ [] → IsKeptAsBefore model start new

-- new stamps keep what is kept
abbrev pub RenumberingKeeps : Type 0
RenumberingKeeps = (model : Model) (old new : Memory) → IsKept model old → new.held ≡ renumbered 0 old.held → new.last ≡ length old.held → new.begun ≡ old.begun → IsKeptAsBefore model old new
