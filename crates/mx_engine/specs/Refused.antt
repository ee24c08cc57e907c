-- Answers that refuse.
use Rattle.std.specs.Prelude.{ℕ, Result, Ok, Err}
use Rattle.mx_edit.specs.declared.edit.Edit.{Edit}
use Rattle.mx_edit.specs.declared.refusal.EditRefusal.{EditRefusal}
use Rattle.mx_edit.specs.declared.refusal.EditRefusal.TheVariants as refusal
use Rattle.mx_model.specs.Records.{ModelRecord}
use Rattle.mx_model.specs.Apply.{Apply}

-- where an edit is refused, it is for this reason; only want of memory is free
abbrev pub IsRefusedBy : ModelRecord → Edit → Result ℕ EditRefusal → Type 0
IsRefusedBy text e (Ok dropped) = Unit {0}
IsRefusedBy text e (Err refusal.NoMemory) = Unit {0}
IsRefusedBy text e (Err why) = Apply text e (Err why)
