-- What a run does. It is a conversation: it looks keys up in the model text, asks nodes, notes what it read, and ends.
use Rattle.std.specs.Prelude.{ℕ}
use Rattle.mx_value.specs.declared.node.Node.{Node}
use Rattle.mx_value.specs.declared.read.Read.{Read}
use Rattle.mx_value.specs.declared.fault.FaultKind.{FaultKind}
use Rattle.mx_edit.specs.declared.key.Key.{Key}
use Rattle.mx_edit.specs.declared.key.KeyResult.{KeyResult}
use Rattle.mx_edit.specs.declared.reply.Reply.{Reply}

-- how a node's run ends
pub data Outcome : Type 0 where
  Gives : Reply → Outcome
  Faults : FaultKind → Node → ℕ → Outcome  -- the fault, the node whose run met it, and the line of its formula
  NoSuch : Outcome
  WrongCount : Outcome
  NoLevel : Outcome  -- not reached at this level

-- What a run does next, and how it goes on after the answer. It learns of the model text only by looking keys up.
pub data Run : Type 0 where
  Ends : Outcome → Run
  Looks : Key → (KeyResult → Run) → Run  -- a key that the run reads
  Tests : Key → (KeyResult → Run) → Run  -- looked up before a node is asked whose own run reads it: no key of this run
  Asks : Node → (Reply → Run) → Run
  Notes : Read → Run → Run  -- a reference or a table that counts as read

-- a thing that a run did
pub data Event : Type 0 where
  Looked : Key → Event
  Tested : Key → Event
  Asked : Node → Reply → Event
  Noted : Read → Event

-- What nodes mean rests on this: what the model text has under a key, and the run of each node.
pub record Model : Type 0 where
  pub look : Key → KeyResult
  pub body : Node → Run
