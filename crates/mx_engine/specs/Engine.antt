-- Engines as contracts see them, and what is true of each.
use Rattle.std.specs.Prelude.{ℕ, []}
use Rattle.mx_model.specs.Records.{ModelRecord, beginning}
use Rattle.mx_memo.specs.Memos.{Memory}
use Rattle.mx_memo_laws.specs.Entries.{IsKept}
use Rattle.mx_machine.specs.States.{state_of}
use Rattle.mx_state.specs.Model.{model_of}
use Rattle.mx_state.specs.State.{State, IsRightState}
use Rattle.mx_engine.specs.Proper.{IsProperState}

-- how many nodes a chain may have at first
abbrev pub first_limit : ℕ
first_limit = 5000

-- the state of a new engine: the text of a new model, and nothing held
abbrev pub first_state : State
first_state = record { text = beginning; held = []; limit = first_limit }

-- the state is right, and nothing is in flight
pub record IsSound (text : ModelRecord) (memory : Memory) (limit : ℕ) : Type 0 where
  pub right : IsRightState (state_of text memory limit)
  pub kept : IsKept (model_of text) memory

-- What is true of each engine. It is sound, its text has small literals, and each held node is one that may be handed in.
pub record IsEngine (text : ModelRecord) (memory : Memory) (limit : ℕ) : Type 0 where
  pub sound : IsSound text memory limit
  pub proper : IsProperState (state_of text memory limit)
