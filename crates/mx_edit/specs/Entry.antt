-- What is held of a node.
use Rattle.std.specs.Prelude.{List}
use Rattle.mx_value.specs.declared.node.Node.{Node}
use Rattle.mx_value.specs.declared.read.Read.{Read}
use Rattle.mx_edit.specs.declared.key.Key.{Key}
use Rattle.mx_edit.specs.declared.reply.Reply.{Reply}

-- a held node in its bound form, what it gives, and the keys that its own run looked up, the nodes that it asked and
-- what it read: each once, in order of first occurrence
pub record Entry : Type 0 where
  pub node : Node
  pub reply : Reply
  pub keys : List Key
  pub asks : List Node
  pub reads : List Read
