-- What a node rests on in the model text.
use Rattle.std.specs.Prelude.{◌≡◌, ◌⊎◌, List}
use Rattle.mx_value.specs.declared.node.Node.{Node}
use Rattle.mx_edit.specs.declared.key.Key.{Key}
use Rattle.mx_edit.specs.declared.key.KeyResult.{KeyResult}
use Rattle.mx_edit.specs.declared.reply.Reply.{Reply}
use Rattle.mx_runs.specs.Runs.{Model, Run, Looks, Tests, Gives, Event}
use Rattle.mx_runs.specs.Meaning.{Means, Leads}
use Rattle.mx_runs.specs.Chains.{DoesAsk, Reaches}

-- the same runs, where keys lead elsewhere: the model after an edit
abbrev pub with_look : Model → (Key → KeyResult) → Model
with_look model other = record { look = other; body = model.body }

-- n's run comes to look a key up: it is a key of n
pub record LooksUp (model : Model) (n : Node) (key : Key) : Type 0 where
  pub events : List Event
  pub go : KeyResult → Run
  pub leads : Leads model (model.body n) events (Looks key go)

-- n's run comes to test a key
pub record DoesTest (model : Model) (n : Node) (key : Key) : Type 0 where
  pub events : List Event
  pub go : KeyResult → Run
  pub leads : Leads model (model.body n) events (Tests key go)

-- n, or a node that it reaches, looks the key up or tests it
pub record Supports (model : Model) (key : Key) (n : Node) : Type 0 where
  pub by : Node
  pub reaches : Reaches model n by
  pub consults : LooksUp model by key ⊎ DoesTest model by key

-- n, or a node that it reaches, has the key
pub record KeySupports (model : Model) (key : Key) (n : Node) : Type 0 where
  pub by : Node
  pub reaches : Reaches model n by
  pub looks : LooksUp model by key

-- all that n and the nodes that it reaches look up or test leads to the same
abbrev pub IsUnchanged : Model → (Key → KeyResult) → Node → Type 0
IsUnchanged model other n = (key : Key) → Supports model key n → other key ≡ model.look key

-- the keys of n and of the nodes that it reaches lead to the same
abbrev pub HasSameKeys : Model → (Key → KeyResult) → Node → Type 0
HasSameKeys model other n = (key : Key) → KeySupports model key n → other key ≡ model.look key

-- n asks a node that has the key
pub record IsCovered (model : Model) (n : Node) (key : Key) : Type 0 where
  pub asked : Node
  pub asks : DoesAsk model n asked
  pub looks : LooksUp model asked key

-- what is owed of the runs: a key that a run with a value tests is one of a node that it asks
abbrev pub TestsAreCovered : Model → Type 0
TestsAreCovered model = (n : Node) (r : Reply) (key : Key) → Means model n (Gives r) → DoesTest model n key → IsCovered model n key
