-- The state of an engine, by its memo.
use Rattle.std.specs.Prelude.{ℕ}
use Rattle.mx_model.specs.Records.{ModelRecord}
use Rattle.mx_memo.specs.Memos.{Memory}
use Rattle.mx_memo_laws.specs.Entries.{entries_of}
use Rattle.mx_state.specs.State.{State}

-- the text, the entries of what is held, and the limit
abbrev pub state_of : ModelRecord → Memory → ℕ → State
state_of text memory limit = record { text = text; held = entries_of memory.held; limit = limit }
