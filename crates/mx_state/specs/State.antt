-- The state of an engine, and when it is right.
use Rattle.std.specs.Prelude.{ℕ, List}
use Rattle.mx_value.specs.declared.node.Node.{Node}
use Rattle.mx_edit.specs.Entry.{Entry}
use Rattle.mx_runs.specs.Lists.{Has}
use Rattle.mx_runs.specs.Runs.{Model}
use Rattle.mx_meaning.specs.Laws.{BindsTo}
use Rattle.mx_answers.specs.Records.{IsRightMemo}
use Rattle.mx_answers.specs.Answers.{IsLimit}
use Rattle.mx_model.specs.Records.{ModelRecord}
use Rattle.mx_model.specs.Valid.{Valid}
use Rattle.mx_state.specs.Model.{model_of}
use Rattle.mx_state.specs.Proper.{IsProper, IsPlace, IsThere, address_of}

-- the model text, what is held, and how many nodes a chain may have
pub record State : Type 0 where
  pub text : ModelRecord
  pub held : List Entry
  pub limit : ℕ

-- A held node is its own bound form, its address is one that can be there, and its space is there.
pub record IsHeldAsBound (model : Model) (n : Node) : Type 0 where
  pub bound : BindsTo model n n
  pub place : IsPlace (address_of n)
  pub there : IsThere model (address_of n)

-- The text is valid. What is held is right for it and recorded: each node means its value, is no input and is held once,
-- what it asked is held before it or is an input, and no more are held than may be. Each is held as bound. The limit is one
-- that may be set.
pub record IsRightState (s : State) : Type 0 where
  pub valid : Valid s.text
  pub memo : IsRightMemo (model_of s.text) s.held
  pub bound : (e : Entry) → Has s.held e → IsHeldAsBound (model_of s.text) e.node
  pub limit : IsLimit s.limit

-- each held node is one that may be handed in
abbrev pub AreProper : State → Type 0
AreProper s = (e : Entry) → Has s.held e → IsProper e.node
