-- How what comes of an instruction goes on past its look-ups, with what was found.
use Rattle.std.specs.Prelude.{◌≡◌, ℕ, Result, Ok, Err}
use Rattle.mx_edit.specs.declared.key.Key.{Key}
use Rattle.mx_edit.specs.declared.key.KeyResult.{KeyResult}
use Rattle.mx_ops.specs.declared.op.OpRefusal.{OpRefusal}
use Rattle.mx_ops.specs.declared.op.OpRefusal.TheVariants as refusal
use Rattle.mx_code_law.specs.States.{Home, Next, Fault}
use Rattle.mx_read_set.specs.Seen.{Seen}
use Rattle.mx_read_set.specs.Passed.{passed}

-- it goes on with what was found, or ends in the fault that came of it, unless there was no memory
abbrev pub Goes : {X : Type 0} → (Key → KeyResult) → Result X OpRefusal → Home → ℕ → (X → Next) → Next → Seen → Seen → Type 0
Goes look (Ok x) h line to next old new = passed look next old ≡ passed look (to x) new
Goes look (Err (refusal.Fault kind)) h line to next old new = passed look next old ≡ (Fault h kind line, new)
Goes look (Err refusal.NoMemory) h line to next old new = Unit {0}
