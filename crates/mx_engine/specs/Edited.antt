-- What an accepted edit does to a text and to what is held for it.
use Rattle.std.specs.Prelude.{ℕ}
use Rattle.mx_edit.specs.declared.edit.Edit.{Edit}
use Rattle.mx_model.specs.Records.{ModelRecord}
use Rattle.mx_memo.specs.Memos.{Memory}
use Rattle.mx_machine.specs.States.{state_of}
use Rattle.mx_state.specs.Changes.{Edits}
use Rattle.mx_engine.specs.Engine.{IsSound}

-- with whatever limit, what was sound is sound, and is what the edit makes
pub record IsEdited (before : ModelRecord) (old : Memory) (e : Edit) (after : ModelRecord) (new : Memory) (limit : ℕ) : Type 0 where
  pub sound : IsSound after new limit
  pub edits : Edits (state_of before old limit) e (state_of after new limit)

abbrev pub HasEdited : ModelRecord → Memory → Edit → ModelRecord → Memory → Type 0
HasEdited before old e after new = (limit : ℕ) → IsSound before old limit → IsEdited before old e after new limit
