-- Evaluations in a state: of which node they are, what they answer, and in which state they leave the engine.
use Rattle.std.specs.Prelude.{◌≡◌, ℕ, List, [], Option, Some, None, Result, Ok, Err}
use Rattle.mx_value.specs.declared.node.Node.{Node}
use Rattle.mx_value.specs.declared.read.Read.{Read}
use Rattle.mx_value.specs.declared.value.Value.{Value}
use Rattle.mx_value.specs.declared.refusal.EvalRefusal.{EvalRefusal}
use Rattle.mx_value.specs.declared.refusal.EvalRefusal.TheVariants as refusal
use Rattle.mx_edit.specs.Entry.{Entry}
use Rattle.mx_runs.specs.Lists.{Has}
use Rattle.mx_runs.specs.Runs.{Model, Run, Event}
use Rattle.mx_runs.specs.Meaning.{Leads}
use Rattle.mx_runs.specs.Chains.{asks_of}
use Rattle.mx_meaning.specs.Binding.{binding}
use Rattle.mx_meaning.specs.Laws.{BindsTo}
use Rattle.mx_answers.specs.Held.{nodes_of}
use Rattle.mx_answers.specs.Records.{IsRecordOf, HasReads, AskBefore}
use Rattle.mx_answers.specs.Answers.{Answer}
use Rattle.mx_state.specs.Model.{model_of}
use Rattle.mx_state.specs.State.{State}

-- ---- evaluations

-- the node that is asked for n: its bound form where it has one, and else n itself
pub data IsAsked (model : Model) (n : Node) : Node → Type 0 where
  AsBound : {b : Node} → BindsTo model n b → IsAsked model n b
  AsWritten : ((b : Node) → BindsTo model n b → ⊥) → IsAsked model n n

-- what is held are records, each behind those of the nodes that it asked
pub record AreRecorded (model : Model) (held : List Entry) : Type 0 where
  pub records : (e : Entry) → Has held e → IsRecordOf model e
  pub order : AskBefore [] held

-- there is a node that is asked for n
pub record HasAsked (model : Model) (n : Node) : Type 0 where
  pub node : Node
  pub asked : IsAsked model n node

-- Which node is asked for n is known where the answer is settled. Where the evaluation breaks off before, what was held is
-- held.
abbrev pub KnowsAsked : Model → Node → Result Value EvalRefusal → List Entry → List Entry → Type 0
KnowsAsked model n (Ok v) before after = HasAsked model n
KnowsAsked model n (Err (refusal.Fault k m line)) before after = HasAsked model n
KnowsAsked model n (Err (refusal.Ring ring)) before after = HasAsked model n
KnowsAsked model n (Err refusal.NoSuch) before after = HasAsked model n
KnowsAsked model n (Err refusal.WrongCount) before after = HasAsked model n
KnowsAsked model n (Err (refusal.TooDeep m)) before after = after ≡ before
KnowsAsked model n (Err refusal.Full) before after = after ≡ before
KnowsAsked model n (Err refusal.NoMemory) before after = after ≡ before

-- An evaluation of n from one state to another, with the answer of the node that is asked and the number of formula runs
-- that it began. It changes neither the text nor the limit.
pub record Evaluates (s : State) (n : Node) (a : Result Value EvalRefusal) (ticks : ℕ) (t : State) : Type 0 where
  pub known : KnowsAsked (model_of s.text) n a s.held t.held
  pub answers : (b : Node) → IsAsked (model_of s.text) n b → Answer (model_of s.text) (record { node = b; held = s.held; limit = s.limit }) a t.held ticks
  pub recorded : AreRecorded (model_of s.text) t.held
  pub text : t.text ≡ s.text
  pub limit : t.limit ≡ s.limit

-- ---- precedents

-- in place of a value its node's reads, and else the same refusal
abbrev pub TellsReads : Model → Node → Result Value EvalRefusal → Result (List Read) EvalRefusal → Type 0
TellsReads model n (Ok v) (Ok reads) = HasReads model n reads
TellsReads model n (Ok v) (Err why) = ⊥
TellsReads model n (Err why) (Ok reads) = ⊥
TellsReads model n (Err why) (Err other) = other ≡ why

-- the precedents of n: its evaluation, which answers the reads of the node that is asked
pub record HasPrecedents (s : State) (n : Node) (a : Result (List Read) EvalRefusal) (ticks : ℕ) (t : State) : Type 0 where
  pub value : Result Value EvalRefusal
  pub evaluates : Evaluates s n value ticks t
  pub tells : (b : Node) → IsAsked (model_of s.text) n b → TellsReads (model_of s.text) b value a

-- ---- the bound form, by what is held

-- n has this bound form, and each item node on the way is among these
pub record IsBoundBy (model : Model) (nodes : List Node) (n b : Node) : Type 0 where
  pub events : List Event
  pub leads : (go : Node → Run) → Leads model (binding n go) events (go b)
  pub held : (m : Node) → Has (asks_of events) m → Has nodes m

-- the bound form of n, or none exactly where it has none that is known by what is held
abbrev pub HasBoundForm : State → Node → Option Node → Type 0
HasBoundForm s n (Some b) = IsBoundBy (model_of s.text) (nodes_of s.held) n b
HasBoundForm s n None = (b : Node) → IsBoundBy (model_of s.text) (nodes_of s.held) n b → ⊥
