-- What is recorded of the runs that gave what is held.
use Rattle.std.specs.Prelude.{◌≡◌, List, [], ◌∷◌, if◌then◌else◌}
use Rattle.mx_value.specs.declared.node.Node.{Node}
use Rattle.mx_value.specs.declared.read.Read.{Read}
use Rattle.mx_value.specs.declared.read.Read.TheVariants as read
use Rattle.mx_edit.specs.Entry.{Entry}
use Rattle.mx_edit.specs.declared.key.Key.{Key}
use Rattle.mx_edit.specs.declared.key.Key.TheVariants.{Input}
use Rattle.mx_runs.specs.Lists.{Has, EachOnce}
use Rattle.mx_runs.specs.Runs.{Model, Ends, Gives, Event, Looked, Tested, Asked, Noted}
use Rattle.mx_runs.specs.Inputs.{is_input}
use Rattle.mx_runs.specs.Meaning.{Leads}
use Rattle.mx_answers.specs.Held.{IsRight}

-- the keys that a run looked up, and that of each input that it asked
abbrev pub recorded_keys : Model → List Event → List Key
recorded_keys model [] = []
recorded_keys model (Looked k ∷ es) = k ∷ recorded_keys model es
recorded_keys model (Tested k ∷ es) = recorded_keys model es
recorded_keys model (Asked m r ∷ es) = if is_input model m then Input m ∷ recorded_keys model es else recorded_keys model es
recorded_keys model (Noted r ∷ es) = recorded_keys model es

-- the nodes that a run asked, but for inputs
abbrev pub recorded_asks : Model → List Event → List Node
recorded_asks model [] = []
recorded_asks model (Looked k ∷ es) = recorded_asks model es
recorded_asks model (Tested k ∷ es) = recorded_asks model es
recorded_asks model (Asked m r ∷ es) = if is_input model m then recorded_asks model es else m ∷ recorded_asks model es
recorded_asks model (Noted r ∷ es) = recorded_asks model es

-- what a run read: the nodes that it asked, and the references and tables that it noted
abbrev pub reads_of : List Event → List Read
reads_of [] = []
reads_of (Looked k ∷ es) = reads_of es
reads_of (Tested k ∷ es) = reads_of es
reads_of (Asked m r ∷ es) = read.Node m ∷ reads_of es
reads_of (Noted r ∷ es) = r ∷ reads_of es

-- the run of the entry's node gives its reply by some events, of which the keys, asks and reads are recorded
pub record IsRecordOf (model : Model) (e : Entry) : Type 0 where
  pub events : List Event
  pub leads : Leads model (model.body e.node) events (Ends (Gives e.reply))
  pub keys : EachOnce (recorded_keys model events) e.keys
  pub asks : EachOnce (recorded_asks model events) e.asks
  pub reads : EachOnce (reads_of events) e.reads

-- there is a record of the node: it means a value
pub record HasRecord (model : Model) (n : Node) : Type 0 where
  pub entry : Entry
  pub of : entry.node ≡ n
  pub is : IsRecordOf model entry

-- these are the reads of the node, each once, in order of first occurrence
pub record HasReads (model : Model) (n : Node) (reads : List Read) : Type 0 where
  pub recorded : HasRecord model n
  pub read : recorded.entry.reads ≡ reads

-- each asks none but nodes before it
abbrev pub AskBefore : List Node → List Entry → Type 0
AskBefore before [] = Unit {0}
AskBefore before (e ∷ es) = ((x : Node) → Has e.asks x → Has before x) × AskBefore (e.node ∷ before) es

-- what is held is right, each entry is a record, and what it asked stands before it
pub record IsRightMemo (model : Model) (held : List Entry) : Type 0 where
  pub right : IsRight model held
  pub records : (e : Entry) → Has held e → IsRecordOf model e
  pub order : AskBefore [] held
