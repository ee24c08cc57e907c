-- What is recorded of a run so far, and how it grows as the run goes on past what is known.
use Rattle.std.specs.Prelude.{◌≡◌, true, List, [], ◌∷◌, ◌++◌, ◌⊎◌, None}
use Rattle.mx_value.specs.declared.value.Value.{Value}
use Rattle.mx_value.specs.declared.node.Node.{Node}
use Rattle.mx_value.specs.declared.read.Read.{Read}
use Rattle.mx_value.specs.declared.read.Read.TheVariants as read
use Rattle.mx_edit.specs.Entry.{Entry}
use Rattle.mx_edit.specs.declared.key.Key.{Key}
use Rattle.mx_edit.specs.declared.key.Key.TheVariants.{Input}
use Rattle.mx_edit.specs.declared.key.KeyResult.{KeyResult}
use Rattle.mx_edit.specs.declared.key.KeyResult.TheVariants as found
use Rattle.mx_edit.specs.declared.reply.Reply.{Reply}
use Rattle.mx_runs.specs.Lists.{Has, EachOnce}
use Rattle.mx_runs.specs.Runs.{Model, Run, Looks, Tests, Asks, Notes, Event}
use Rattle.mx_runs.specs.Inputs.{is_input}
use Rattle.mx_runs.specs.Meaning.{Leads}
use Rattle.mx_answers.specs.Records.{recorded_keys, recorded_asks, reads_of}

-- What is recorded of a run so far: the keys that it looked up and those of the inputs that it asked, the other nodes
-- that it asked, and what it read. Each stands once, in order of first occurrence.
pub record Recorded : Type 0 where
  pub keys : List Key
  pub asks : List Node
  pub reads : List Read

-- of a run that has done nothing
abbrev pub nothing : Recorded
nothing = record { keys = []; asks = []; reads = [] }

-- what is held of a node that gave this reply, where so much was recorded of its run
abbrev pub as_entry : Node → Reply → Recorded → Entry
as_entry n r so_far = record { node = n; reply = r; keys = so_far.keys; asks = so_far.asks; reads = so_far.reads }

-- n's run comes to this rest by some events, of which exactly so much is recorded
pub record ComesTo (model : Model) (n : Node) (so_far : Recorded) (rest : Run) : Type 0 where
  pub events : List Event
  pub leads : Leads model (model.body n) events rest
  pub keys : EachOnce (recorded_keys model events) so_far.keys
  pub asks : EachOnce (recorded_asks model events) so_far.asks
  pub reads : EachOnce (reads_of events) so_far.reads

-- the second list is the first and x: as it was where x is among it, else with x at its end
abbrev pub Adds : {X : Type 0} → List X → X → List X → Type 0
Adds xs x ys = (Has xs x × (ys ≡ xs)) ⊎ ((Has xs x → ⊥) × (ys ≡ xs ++ x ∷ []))

-- A run goes on from one rest to another, past keys, tests, notes and asks of known nodes, and so its records grow.
pub data GoesPast (model : Model) (held : List Entry) : Run → Recorded → Run → Recorded → Type 0 where
  -- it stays where it is
  Stays : (run : Run) (so_far : Recorded) → GoesPast model held run so_far run so_far
  -- it looks a key up, which is recorded
  PastLook : (key : Key) (go : KeyResult → Run) (rest : Run) (so_far last : Recorded) (keys : List Key)
      → Adds so_far.keys key keys
      → GoesPast model held (go (model.look key)) (record so_far { keys = keys }) rest last
      → GoesPast model held (Looks key go) so_far rest last
  -- it tests a key, of which nothing is recorded
  PastTest : (key : Key) (go : KeyResult → Run) (rest : Run) (so_far last : Recorded)
      → GoesPast model held (go (model.look key)) so_far rest last
      → GoesPast model held (Tests key go) so_far rest last
  -- it notes what it read, which is recorded
  PastNote : (noted : Read) (run rest : Run) (so_far last : Recorded) (reads : List Read)
      → Adds so_far.reads noted reads → GoesPast model held run (record so_far { reads = reads }) rest last
      → GoesPast model held (Notes noted run) so_far rest last
  -- it asks a held node, which gives what is held; the node is recorded, and that it was read
  PastHeld : (e : Entry) (go : Reply → Run) (rest : Run) (so_far last : Recorded) (asks : List Node) (reads : List Read)
      → Has held e → Adds so_far.asks e.node asks → Adds so_far.reads (read.Node e.node) reads
      → GoesPast model held (go e.reply) (record so_far { asks = asks; reads = reads }) rest last
      → GoesPast model held (Asks e.node go) so_far rest last
  -- it asks an input, which gives the value that was put in; its key is recorded, and that it was read
  PastInput : (m : Node) (value : Value) (go : Reply → Run) (rest : Run) (so_far last : Recorded) (keys : List Key) (reads : List Read)
      → is_input model m ≡ true → model.look (Input m) ≡ found.Value value → Adds so_far.keys (Input m) keys
      → Adds so_far.reads (read.Node m) reads
      → GoesPast model held (go (record { value = value; namespace = None })) (record so_far { keys = keys; reads = reads }) rest last
      → GoesPast model held (Asks m go) so_far rest last
