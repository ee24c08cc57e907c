-- What is known of a node without a run.
use Rattle.std.specs.Prelude.{◌≡◌, ℕ, true, false, List, None}
use Rattle.mx_value.specs.declared.node.Node.{Node}
use Rattle.mx_value.specs.declared.value.Value.{Value}
use Rattle.mx_edit.specs.declared.reply.Reply.{Reply}
use Rattle.mx_edit.specs.declared.key.Key.TheVariants.{Input}
use Rattle.mx_edit.specs.declared.key.KeyResult.TheVariants as found
use Rattle.mx_vertices.specs.Found.{IsNew}
use Rattle.mx_vertices.specs.Kept.{Kept}
use Rattle.mx_vertices.specs.Places.{Has}
use Rattle.mx_memo.specs.Memos.{Memory}
use Rattle.mx_runs.specs.Runs.{Model}
use Rattle.mx_runs.specs.Inputs.{is_input}
use Rattle.mx_frames.specs.declared.known.Found.{Found}
use Rattle.mx_frames.specs.declared.known.Known.{Known}
use Rattle.mx_frames.specs.declared.known.Known.TheVariants as known

-- the node is an input, with this value
pub record HasInput (model : Model) (n : Node) (v : Value) : Type 0 where
  pub is : is_input model n ≡ true
  pub value : model.look (Input n) ≡ found.Value v

-- the node is held under this id, with this reply
pub record GivesHeld (held : List Kept) (id : ℕ) (n : Node) (r : Reply) : Type 0 where
  pub entry : Kept
  pub among : Has held entry
  pub id_is : entry.id ≡ id
  pub node_is : entry.body.node ≡ n
  pub reply_is : entry.body.reply ≡ r

-- the node is an input, and this is its reply
pub record RepliesInput (model : Model) (n : Node) (r : Reply) : Type 0 where
  pub value : Value
  pub input : HasInput model n value
  pub is : r ≡ record { value = value; namespace = None }

-- the node is new: no input, not held, and its run has not begun
pub record IsUnknown (model : Model) (m : Memory) (n : Node) : Type 0 where
  pub own : is_input model n ≡ false
  pub new : IsNew m.held n
  pub begun : Has m.begun n → ⊥

-- the run of the node has begun; it is no input
pub record HasBegun (model : Model) (m : Memory) (n : Node) : Type 0 where
  pub own : is_input model n ≡ false
  pub begun : Has m.begun n

-- what is found is the held node
pub record IsFound (held : List Kept) (n : Node) (found : Found) : Type 0 where
  pub node_is : found.node ≡ n
  pub gives : GivesHeld held found.id.at n found.reply

-- it is told that the node is held, with its reply
abbrev pub IsHeldReply : List Kept → Node → Known → Type 0
IsHeldReply held n (known.Held f) = IsFound held n f
IsHeldReply held n other = ⊥

-- what is told of a node is so
abbrev pub IsKnownAs : Model → Memory → Node → Known → Type 0
IsKnownAs model m n (known.Input r) = RepliesInput model n r
IsKnownAs model m n (known.Held f) = IsFound m.held n f
IsKnownAs model m n known.Begun = HasBegun model m n
IsKnownAs model m n known.New = IsUnknown model m n
