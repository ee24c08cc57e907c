-- Laws of runs: one meaning, what an input does, agreement of two models, one last ask, one ring.
use Rattle.std.specs.Prelude.{◌≡◌, ◌↔◌, true, List, None}
use Rattle.mx_value.specs.declared.node.Node.{Node}
use Rattle.mx_value.specs.declared.value.Value.{Value}
use Rattle.mx_edit.specs.declared.key.Key.{Key}
use Rattle.mx_edit.specs.declared.key.Key.TheVariants.{Input}
use Rattle.mx_edit.specs.declared.key.KeyResult.{KeyResult}
use Rattle.mx_edit.specs.declared.key.KeyResult.TheVariants as found
use Rattle.mx_edit.specs.declared.reply.Reply.{Reply}
use Rattle.mx_runs.specs.Runs.{Model, Outcome, Run, Gives, Event}
use Rattle.mx_runs.specs.Inputs.{is_input, InputsEnd}
use Rattle.mx_runs.specs.Meaning.{Means, Leads}
use Rattle.mx_runs.specs.Chains.{LastAsk, IsRing, MeansNothing, DoesAsk}
use Rattle.mx_runs.specs.Support.{with_look, LooksUp, Supports, KeySupports, IsUnchanged, HasSameKeys, TestsAreCovered}

-- a node means at most one thing
abbrev pub OneMeaning : Type 0
OneMeaning = (model : Model) (n : Node) (o p : Outcome) → Means model n o → Means model n p → o ≡ p

-- The value that was put in is what the node means, and its run does nothing but look it up.
pub record IsItsInput (model : Model) (n : Node) : Type 0 where
  pub value : Value
  pub put_in : model.look (Input n) ≡ found.Value value
  pub means : Means model n (Gives (record { value = value; namespace = None }))
  pub looks : (key : Key) → LooksUp model n key ↔ (key ≡ Input n)
  pub asks_none : (m : Node) → DoesAsk model n m → ⊥

-- an input is such a node
abbrev pub InputIsItsValue : Type 0
InputIsItsValue = (model : Model) (n : Node) → InputsEnd model → is_input model n ≡ true → IsItsInput model n

-- the node means the same over the other look-up, and its run comes by the same events to the same rests
pub record Agrees (model : Model) (other : Key → KeyResult) (n : Node) (r : Reply) : Type 0 where
  pub means : Means (with_look model other) n (Gives r)
  pub forth : (rest : Run) (es : List Event) → Leads model (model.body n) es rest → Leads (with_look model other) (model.body n) es rest
  pub back : (rest : Run) (es : List Event) → Leads (with_look model other) (model.body n) es rest → Leads model (model.body n) es rest

-- a node with a value agrees where all that supports it leads to the same
abbrev pub Agreement : Type 0
Agreement = (model : Model) (other : Key → KeyResult) (n : Node) (r : Reply) → Means model n (Gives r) → IsUnchanged model other n → Agrees model other n r

-- the tests of a node with a value, and of those that it reaches, add nothing to its keys
abbrev pub KeysSupport : Type 0
KeysSupport = (model : Model) (n : Node) (r : Reply) (key : Key) → TestsAreCovered model → Means model n (Gives r) → Supports model key n → KeySupports model key n

-- so it agrees where the keys of its support lead to the same
abbrev pub KeyAgreement : Type 0
KeyAgreement = (model : Model) (other : Key → KeyResult) (n : Node) (r : Reply) → TestsAreCovered model → Means model n (Gives r) → HasSameKeys model other n → Agrees model other n r

-- a run that comes to no end has at most one last ask
abbrev pub OneLastAsk : Type 0
OneLastAsk = (model : Model) (n m k : Node) → LastAsk model n m → LastAsk model n k → m ≡ k

-- a node has at most one ring
abbrev pub OneRing : Type 0
OneRing = (model : Model) (n : Node) (xs ys : List Node) → IsRing model n xs → IsRing model n ys → xs ≡ ys

-- a node with a ring means nothing
abbrev pub RingIsLost : Type 0
RingIsLost = (model : Model) (n : Node) (ring : List Node) → IsRing model n ring → MeansNothing model n
