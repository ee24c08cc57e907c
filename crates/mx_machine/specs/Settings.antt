-- Evaluations as they begin.
use Rattle.std.specs.Prelude.{◌≡◌, ℕ, ◌<◌}
use Rattle.mx_value.specs.declared.node.Node.{Node}
use Rattle.mx_memo.specs.Memos.{Memory}
use Rattle.mx_answers.specs.Answers.{Evaluation}
use Rattle.mx_memo_laws.specs.Entries.{entries_of}

-- of a node, with what is held and the limit
abbrev pub evaluation_of : Node → Memory → ℕ → Evaluation
evaluation_of n m limit = record { node = n; held = entries_of m.held; limit = limit }

-- a run may begin, and none waits below
pub record IsAlone (limit below : ℕ) : Type 0 where
  pub room : 0 < limit
  pub alone : below ≡ 0
