-- Laws of states.
use Rattle.std.specs.Prelude.{◌≡◌, ◌↔◌, ◌+◌, ◌≤◌, ℕ, false, List, [], ◌++◌, Option, Some, Result, Ok, Err, length}
use Rattle.mx_value.specs.declared.label.Label.{Label}
use Rattle.mx_value.specs.declared.value.Segment.{Segment}
use Rattle.mx_value.specs.declared.namespace.Namespace.{Namespace}
use Rattle.mx_value.specs.declared.node.Node.TheVariants.{Cell, Item}
use Rattle.mx_value.specs.declared.node.Node.{Node}
use Rattle.mx_value.specs.declared.read.Read.{Read}
use Rattle.mx_value.specs.declared.value.Value.{Value}
use Rattle.mx_value.specs.declared.refusal.EvalRefusal.{EvalRefusal}
use Rattle.mx_value.specs.declared.refusal.EvalRefusal.TheVariants as refusal
use Rattle.mx_edit.specs.Entry.{Entry}
use Rattle.mx_edit.specs.declared.edit.Edit.{Edit}
use Rattle.mx_edit.specs.declared.reply.Reply.{Reply}
use Rattle.mx_edit.specs.declared.scope.Scope.{Scope}
use Rattle.mx_runs.specs.Lists.{Has}
use Rattle.mx_runs.specs.Runs.{Run, Ends, Asks, Outcome, Gives, Event}
use Rattle.mx_runs.specs.Inputs.{is_input, InputsEnd}
use Rattle.mx_runs.specs.Meaning.{Means, Leads}
use Rattle.mx_runs.specs.Chains.{Reaches, HasValue}
use Rattle.mx_runs.specs.Support.{HasSameKeys, TestsAreCovered}
use Rattle.mx_runs.specs.Laws.{Agrees}
use Rattle.mx_meaning.specs.Namespaces.{names_of}
use Rattle.mx_meaning.specs.Binding.{binding}
use Rattle.mx_meaning.specs.Laws.{BindsTo}
use Rattle.mx_answers.specs.Held.{nodes_of}
use Rattle.mx_answers.specs.Records.{IsRightMemo}
use Rattle.mx_answers.specs.Answers.{IsLimit, IsSettled, Answer}
use Rattle.mx_answers.specs.Laws.{EndAlike}
use Rattle.mx_model.specs.Apply.{Apply}
use Rattle.mx_model.specs.Records.{ModelRecord}
use Rattle.mx_model.specs.Keys.{key_result}
use Rattle.mx_model.specs.Valid.{Valid}
use Rattle.mx_state.specs.Model.{model_of}
use Rattle.mx_state.specs.Proper.{HasArguments, IsPlace, IsThere, address_of}
use Rattle.mx_state.specs.State.{State, IsRightState, AreProper}
use Rattle.mx_state.specs.Evaluations.{IsAsked, AreRecorded, Evaluates, TellsReads, HasPrecedents, HasBoundForm}
use Rattle.mx_state.specs.Walks.{ComesTo, WalksAlike, BindsBehind, BindsCells, BindsItem}
use Rattle.mx_state.specs.Changes.{Edits, IsSifted, Clearing, IsSiftedByScope}

-- ---- what is owed of the runs over a text

pub record AreRuns (text : ModelRecord) : Type 0 where
  pub inputs_end : InputsEnd (model_of text)
  pub tests_are_covered : TestsAreCovered (model_of text)

abbrev pub TextsHaveRuns : Type 0
TextsHaveRuns = (text : ModelRecord) → AreRuns text

-- ---- bound forms

-- a node has one bound form at most
abbrev pub OneBoundForm : Type 0
OneBoundForm = (text : ModelRecord) (n b c : Node) → BindsTo (model_of text) n b → BindsTo (model_of text) n c → b ≡ c

-- one node is asked for it
abbrev pub OneIsAsked : Type 0
OneIsAsked = (text : ModelRecord) (n b c : Node) → IsAsked (model_of text) n b → IsAsked (model_of text) n c → b ≡ c

-- by what is held, it has one bound form or none
abbrev pub OneBoundAnswer : Type 0
OneBoundAnswer = (s : State) (n : Node) (a b : Option Node) → HasBoundForm s n a → HasBoundForm s n b → a ≡ b

-- a bound form is its own
abbrev pub BoundIsBound : Type 0
BoundIsBound = (text : ModelRecord) (n b : Node) → BindsTo (model_of text) n b → BindsTo (model_of text) b b

-- a node with a value that is no input has a bound form
pub record HasBound (text : ModelRecord) (n : Node) : Type 0 where
  pub node : Node
  pub binds : BindsTo (model_of text) n node

abbrev pub ValueBinds : Type 0
ValueBinds = (text : ModelRecord) (n : Node) (r : Reply) → Means (model_of text) n (Gives r) → is_input (model_of text) n ≡ false → HasBound text n

-- the address of a node in bound form is one that can be there, and its space is there
pub record HasItsSpace (text : ModelRecord) (n : Node) : Type 0 where
  pub place : IsPlace (address_of n)
  pub there : IsThere (model_of text) (address_of n)

abbrev pub BoundIsThere : Type 0
BoundIsThere = (text : ModelRecord) (n : Node) → BindsTo (model_of text) n n → HasItsSpace text n

-- a node that is held in a right state is asked itself
abbrev pub HeldIsAsked : Type 0
HeldIsAsked = (s : State) (n : Node) → IsRightState s → Has (nodes_of s.held) n → IsAsked (model_of s.text) n n

-- ---- walks and bindings

-- the binding of a node begins with the walk of its address
abbrev pub EachBindsBehind : Type 0
EachBindsBehind = (n : Node) → BindsBehind n

-- the walk of an address that has no item and can be there comes to the path of its names, by no event
abbrev pub StaticComes : Type 0
StaticComes =
    (text : ModelRecord) (at : List Segment) (names : List Label) → names_of at ≡ Some names → (at ≡ [] → ⊥) → length at ≤ 64
    → ComesTo (model_of text) at [] (record { at = at; source = names; overlay = [] })

-- behind the walk, a node of cells binds where the space has them, and nowhere else
abbrev pub CellsBind : Type 0
CellsBind =
    (text : ModelRecord) (at : List Segment) (name : Label) (args : List Value) (es : List Event) (ns : Namespace)
    → ComesTo (model_of text) at es ns → (b : Node) → BindsTo (model_of text) (Cell at name args) b ↔ BindsCells (model_of text) ns name args b

-- and an item node where the space has such items
abbrev pub ItemBinds : Type 0
ItemBinds =
    (text : ModelRecord) (at : List Segment) (args : List Value) (es : List Event) (ns : Namespace)
    → ComesTo (model_of text) at es ns → (b : Node) → BindsTo (model_of text) (Item at args) b ↔ BindsItem (model_of text) ns args b

-- a node has no bound form where its binding comes to ask a node that has no value
abbrev pub LostBindsNone : Type 0
LostBindsNone =
    (text : ModelRecord) (n i : Node) (es : List Event) (to : (Node → Run) → Reply → Run)
    → ((go : Node → Run) → Leads (model_of text) (binding n go) es (Asks i (to go)))
    → (HasValue (model_of text) i → ⊥) → (b : Node) → BindsTo (model_of text) n b → ⊥

-- nor where it ends
abbrev pub EndBindsNone : Type 0
EndBindsNone =
    (text : ModelRecord) (n : Node) (es : List Event) (o : Outcome)
    → ((go : Node → Run) → Leads (model_of text) (binding n go) es (Ends o)) → (b : Node) → BindsTo (model_of text) n b → ⊥

-- a node and its bound form walk alike
abbrev pub BoundWalksAlike : Type 0
BoundWalksAlike = (text : ModelRecord) (n b : Node) → BindsTo (model_of text) n b → WalksAlike (model_of text) (address_of n) (address_of b)

-- ---- right states

-- nothing held is right for a valid text, with a limit that may be set
abbrev pub BeginsRight : Type 0
BeginsRight = (text : ModelRecord) (limit : ℕ) → Valid text → IsLimit limit → IsRightState (record { text = text; held = []; limit = limit })

-- so is another such limit
abbrev pub RightWithLimit : Type 0
RightWithLimit = (s : State) (limit : ℕ) → IsRightState s → IsLimit limit → IsRightState (record s { limit = limit })

-- A right state is right after an evaluation. Its nodes are such as may be handed in where they were before, and where
-- those that are newly held have arguments.
pub record IsEvaluated (s t : State) : Type 0 where
  pub right : IsRightState t
  pub proper : AreProper s → ((x : Node) → Has (nodes_of t.held) x → (Has (nodes_of s.held) x → ⊥) → HasArguments x) → AreProper t

abbrev pub RightAfterEvaluation : Type 0
RightAfterEvaluation = (s t : State) (n : Node) (a : Result Value EvalRefusal) (ticks : ℕ) → IsRightState s → Evaluates s n a ticks t → IsEvaluated s t

-- what was held, sifted by the changed keys, is right for the edited text, where that is valid, and is what the edit makes
pub record IsEdited (s : State) (e : Edit) (t : State) : Type 0 where
  pub right : IsRightState t
  pub proper : AreProper s → AreProper t
  pub edits : Edits s e t

abbrev pub RightAfterEdit : Type 0
RightAfterEdit = (s t : State) (e : Edit) → IsRightState s → Apply s.text e (Ok t.text) → Valid t.text → IsSifted s t → IsEdited s e t

-- the same of a clearing
pub record IsCleared (s : State) (scope : Scope) (t : State) : Type 0 where
  pub right : IsRightState t
  pub proper : AreProper s → AreProper t
  pub clearing : Clearing s scope t

abbrev pub RightAfterClearing : Type 0
RightAfterClearing = (s t : State) (scope : Scope) → IsRightState s → IsSiftedByScope s scope t → IsCleared s scope t

-- ---- answers

-- a node with a value means the same over two texts, and does the same, where the keys of its support lead to the same
abbrev pub KeysDecide : Type 0
KeysDecide = (before after : ModelRecord) (n : Node) (r : Reply) → Means (model_of before) n (Gives r) → HasSameKeys (model_of before) (key_result after) n → Agrees (model_of before) (key_result after) n r

-- two answers in one state that are settled are the same
abbrev pub OneAnswer : Type 0
OneAnswer = (s t u : State) (n : Node) (a b : Result Value EvalRefusal) (ticks runs : ℕ) → Evaluates s n a ticks t → Evaluates s n b runs u → IsSettled a → IsSettled b → a ≡ b

-- two evaluations in a right state end alike, where one is settled and the other had memory
abbrev pub OneStep : Type 0
OneStep = (s t u : State) (n : Node) (a b : Result Value EvalRefusal) (ticks runs : ℕ) → IsRightState s → Evaluates s n a ticks t → Evaluates s n b runs u → IsSettled a → (b ≡ Err refusal.NoMemory → ⊥) → EndAlike a b t.held u.held ticks runs

-- A node with a value is answered, where the limit allows it, and what is newly held are the records of what it reaches:
-- such that all that is held is a right memo that has the node.
abbrev pub ValueIsAnswered : Type 0
ValueIsAnswered = (s : State) (n b : Node) (r : Reply) (more : List Entry) → IsAsked (model_of s.text) n b → Means (model_of s.text) b (Gives r) → IsRightMemo (model_of s.text) (s.held ++ more) → Has (nodes_of (s.held ++ more)) b → ((x : Node) → Has (nodes_of more) x → Reaches (model_of s.text) b x) → length more ≤ s.limit → Evaluates s n (Ok r.value) (length more) (record s { held = s.held ++ more })

-- an answer of the node that is asked makes an evaluation
abbrev pub EvaluatesAs : Type 0
EvaluatesAs =
    (s t : State) (n b : Node) (a : Result Value EvalRefusal) (ticks : ℕ) → IsAsked (model_of s.text) n b
    → Answer (model_of s.text) (record { node = b; held = s.held; limit = s.limit }) a t.held ticks
    → AreRecorded (model_of s.text) t.held → t.text ≡ s.text → t.limit ≡ s.limit → Evaluates s n a ticks t

-- an evaluation that answers a value began the runs of the nodes that it newly holds, and no others
abbrev pub ValueTicks : Type 0
ValueTicks = (s t : State) (n : Node) (v : Value) (ticks : ℕ) → Evaluates s n (Ok v) ticks t → ticks + length s.held ≡ length t.held

-- the precedents of a node in a state are one
abbrev pub OnePrecedents : Type 0
OnePrecedents = (s t u : State) (n : Node) (xs ys : List Read) (ticks runs : ℕ) → HasPrecedents s n (Ok xs) ticks t → HasPrecedents s n (Ok ys) runs u → xs ≡ ys

-- an evaluation, with the reads of the node that is asked, makes precedents
abbrev pub PrecedentsAs : Type 0
PrecedentsAs =
    (s t : State) (n b : Node) (v : Result Value EvalRefusal) (a : Result (List Read) EvalRefusal) (ticks : ℕ)
    → Evaluates s n v ticks t → IsAsked (model_of s.text) n b → TellsReads (model_of s.text) b v a → HasPrecedents s n a ticks t
