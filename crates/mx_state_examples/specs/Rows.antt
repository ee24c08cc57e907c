-- The worked examples: what nodes mean over the texts, by which runs, and what they read.
use Rattle.std.specs.Prelude.{◌≡◌, ℕ, pos, true, List, [], ◌∷◌, Some, None, codes}
use Rattle.mx_value.specs.declared.label.Label.{Label}
use Rattle.mx_value.specs.declared.value.Value.{Value}
use Rattle.mx_value.specs.declared.value.Value.TheVariants.{Int, Fix, Flag, Space}
use Rattle.mx_value.specs.declared.value.Segment.{Segment}
use Rattle.mx_value.specs.declared.value.Segment.TheVariants as segment
use Rattle.mx_value.specs.declared.fault.FaultKind.TheVariants.{NoName, BadItem}
use Rattle.mx_value.specs.declared.node.Node.{Node}
use Rattle.mx_value.specs.declared.node.Node.TheVariants.{Cell, Item}
use Rattle.mx_value.specs.declared.read.Read.TheVariants as read
use Rattle.mx_edit.specs.declared.edit.Edit.TheVariants as edit
use Rattle.mx_edit.specs.declared.refusal.EditRefusal.TheVariants.{ItemAddress}
use Rattle.mx_edit.specs.declared.key.Key.TheVariants as key
use Rattle.mx_edit.specs.declared.reply.Reply.{Reply}
use Rattle.mx_runs.specs.Runs.{Outcome, Ends, Gives, Faults, NoSuch, WrongCount, Event, Looked, Tested, Asked, Noted}
use Rattle.mx_runs.specs.Meaning.{Means, Leads}
use Rattle.mx_meaning.specs.Laws.{BindsTo}
use Rattle.mx_answers.specs.Records.{HasReads}
use Rattle.mx_model.specs.Records.{Path, ModelRecord}
use Rattle.mx_model.specs.Refused.{record_trouble}
use Rattle.mx_state.specs.Model.{model_of}
use Rattle.mx_state.specs.Evaluations.{IsAsked}
use Rattle.mx_state_examples.specs.Texts as text
use Rattle.mx_state_examples.specs.Texts.{main, space_a, space_ab, space_p, space_s}

-- ---- nodes and replies

abbrev pub whole : ℕ → Value
whole n = Int (pos n)

abbrev pub gives : Value → Reply
gives v = record { value = v; namespace = None }

abbrev pub top : Label → List Segment
top name = segment.Name name ∷ []

abbrev pub two : Label → Label → List Segment
two name child = segment.Name name ∷ segment.Name child ∷ []

-- the item of S with one argument, as an address and as a node
abbrev pub in_item : Value → List Segment
in_item v = segment.Name (codes "S") ∷ segment.Item (v ∷ []) ∷ []

abbrev pub item : Value → Node
item v = Item (top (codes "S")) (v ∷ [])

-- the whole run of a node is these events, and it ends so
abbrev pub Runs : ModelRecord → Node → List Event → Outcome → Type 0
Runs t n es o = Leads (model_of t) ((model_of t).body n) es (Ends o)

-- the run of cells without arguments that are a literal
abbrev pub literal_events : List Segment → Path → Label → List Value → List Event
literal_events at path name args = Looked (key.Input (Cell at name args)) ∷ Looked (key.Cells path name) ∷ []

-- what the item of S gives whose one parameter has this value, by this source
abbrev pub item_reply : Label → Value → Reply
item_reply p v = record { value = Space (in_item v); namespace = Some (record { at = in_item v; source = space_s; overlay = (p, v) ∷ [] }) }

-- ---- the parameter of an item hides a reference of its name

-- S[2].c() is 2, and the name x is no key of it
abbrev pub ParameterHidesReference : Type 0
ParameterHidesReference =
    Runs text.hiding (Cell (in_item (whole 2)) (codes "c") [])
    (Tested (key.Params space_s) ∷ Asked (item (whole 2)) (item_reply (codes "x") (whole 2)) ∷ Looked (key.Cells space_s (codes "c")) ∷ [])
    (Gives (gives (whole 2)))

-- S.c() is 1, and reads the reference
abbrev pub ReferenceOutside : Type 0
ReferenceOutside =
    Runs text.hiding (Cell (top (codes "S")) (codes "c") [])
    (Looked (key.Input (Cell (top (codes "S")) (codes "c") [])) ∷ Looked (key.Cells space_s (codes "c")) ∷ Looked (key.Name space_s (codes "x")) ∷ Noted (read.Ref (top (codes "S")) (codes "x")) ∷ [])
    (Gives (gives (whole 1)))

-- ---- items of a space with a parameter

-- c(1) in the item of this argument
abbrev pub product_in : Value → Node
product_in v = Cell (in_item v) (codes "c") (whole 1 ∷ [])

abbrev pub product_events : Value → List Event
product_events v = Tested (key.Params space_s) ∷ Asked (item v) (item_reply (codes "x") v) ∷ Looked (key.Cells space_s (codes "c")) ∷ []

-- S[2].c(1) is 2, and S[True].c(1) is 1
abbrev pub ItemsMultiply : Type 0
ItemsMultiply =
    Runs text.multiplying (product_in (whole 2)) (product_events (whole 2)) (Gives (gives (whole 2))) ×
    Runs text.multiplying (product_in (Flag true)) (product_events (Flag true)) (Gives (gives (whole 1)))

-- it reads its item alone
abbrev pub ItemIsRead : Type 0
ItemIsRead = HasReads (model_of text.multiplying) (product_in (whole 2)) (read.Node (item (whole 2)) ∷ [])

-- the bound form of S[2.0].c(1) is S[2].c(1)
abbrev pub WholeDecimalIsBound : Type 0
WholeDecimalIsBound = BindsTo (model_of text.multiplying) (product_in (Fix (pos 2000000000))) (product_in (whole 2))

-- outside of an item the parameter is no name: S.c(1) is a fault of its first line
abbrev pub NoParameterOutside : Type 0
NoParameterOutside =
    Runs text.multiplying (Cell (top (codes "S")) (codes "c") (whole 1 ∷ []))
    (Looked (key.Input (Cell (top (codes "S")) (codes "c") (whole 1 ∷ []))) ∷ Looked (key.Cells space_s (codes "c")) ∷ Looked (key.Name space_s (codes "x")) ∷ Looked (key.Global (codes "x")) ∷ [])
    (Faults NoName (Cell (top (codes "S")) (codes "c") (whole 1 ∷ [])) 1)

-- S[1, 2].c(1) has no bound form: it is asked as it is written, and is a wrong count
abbrev pub crowded : Node
crowded = Cell (segment.Name (codes "S") ∷ segment.Item (whole 1 ∷ whole 2 ∷ []) ∷ []) (codes "c") (whole 1 ∷ [])

abbrev pub TooManyArguments : Type 0
TooManyArguments = IsAsked (model_of text.multiplying) crowded crowded × Runs text.multiplying crowded (Tested (key.Params space_s) ∷ []) WrongCount

-- an input at the address of an item is refused
abbrev pub NoInputInItem : Type 0
NoInputInItem = record_trouble text.multiplying (edit.SetInput (in_item (whole 2)) (codes "c") (whole 1 ∷ []) (whole 5)) ≡ Some ItemAddress

-- ---- a choice reads no more than it takes

abbrev pub main_cell : Label → List Value → Node
main_cell name args = Cell (top (codes "Main")) name args

abbrev pub choice_events : List Event
choice_events =
    Looked (key.Input (main_cell (codes "c") [])) ∷ Looked (key.Cells main (codes "c")) ∷ Looked (key.Name main (codes "flag")) ∷ Noted (read.Ref (top (codes "Main")) (codes "flag"))
    ∷ Looked (key.Name main (codes "a")) ∷ Looked (key.Cells main (codes "a")) ∷ Asked (main_cell (codes "a") []) (gives (whole 1)) ∷ []

-- c() is 1
abbrev pub ChoiceTakesOne : Type 0
ChoiceTakesOne = Runs text.choosing (main_cell (codes "c") []) choice_events (Gives (gives (whole 1)))

-- it reads the reference and a(), and not b()
abbrev pub ChoiceReadsOne : Type 0
ChoiceReadsOne = HasReads (model_of text.choosing) (main_cell (codes "c") []) (read.Ref (top (codes "Main")) (codes "flag") ∷ read.Node (main_cell (codes "a") []) ∷ [])

-- ---- a formula that a space takes over looks names up where it runs

-- the run of w() in a space at the top, where b leads to a space below it
abbrev pub w_events : Label → Label → ℕ → List Event
w_events here there n =
    Looked (key.Input (Cell (top here) (codes "w") [])) ∷ Looked (key.Cells (here ∷ []) (codes "w")) ∷ Looked (key.Name (here ∷ []) (codes "b")) ∷ Noted (read.Ref (top here) (codes "b"))
    ∷ Looked (key.Exists (there ∷ codes "B" ∷ [])) ∷ Looked (key.Name (there ∷ codes "B" ∷ []) (codes "v")) ∷ Looked (key.Cells (there ∷ codes "B" ∷ []) (codes "v"))
    ∷ Asked (Cell (two there (codes "B")) (codes "v") []) (gives (whole n)) ∷ []

-- A.w() is 10 by A.B.v(), and S.w() is 20 by S.B.v()
abbrev pub FormulaLooksWhereItRuns : Type 0
FormulaLooksWhereItRuns =
    Runs text.inheriting (Cell (top (codes "A")) (codes "w") []) (w_events (codes "A") (codes "A") 1) (Gives (gives (whole 10))) ×
    Runs text.inheriting (Cell (top (codes "S")) (codes "w") []) (w_events (codes "S") (codes "S") 2) (Gives (gives (whole 20)))

-- S.w() reads S.b and S.B.v()
abbrev pub TakenOverReads : Type 0
TakenOverReads = HasReads (model_of text.inheriting) (Cell (top (codes "S")) (codes "w") []) (read.Ref (top (codes "S")) (codes "b") ∷ read.Node (Cell (two (codes "S") (codes "B")) (codes "v") []) ∷ [])

-- where the target is fixed, S.w() is 10 by A.B.v()
abbrev pub FixedTargetStays : Type 0
FixedTargetStays = Runs text.inheriting_fixed (Cell (top (codes "S")) (codes "w") []) (w_events (codes "S") (codes "A") 1) (Gives (gives (whole 10)))

-- ---- names are not sought in the space above

abbrev pub nested_v : Node
nested_v = Cell (two (codes "A") (codes "B")) (codes "v") []

-- A.B.v() finds no name k
abbrev pub NoNameAbove : Type 0
NoNameAbove =
    Runs text.nested nested_v (Looked (key.Input nested_v) ∷ Looked (key.Cells space_ab (codes "v")) ∷ Looked (key.Name space_ab (codes "k")) ∷ Looked (key.Global (codes "k")) ∷ [])
    (Faults NoName nested_v 1)

-- by a reference to the cells it is 2
abbrev pub ReferenceToCells : Type 0
ReferenceToCells =
    Runs text.referring nested_v
    (Looked (key.Input nested_v) ∷ Looked (key.Cells space_ab (codes "v")) ∷ Looked (key.Name space_ab (codes "k")) ∷ Noted (read.Ref (two (codes "A") (codes "B")) (codes "k"))
    ∷ Looked (key.Exists (codes "A" ∷ codes "k" ∷ [])) ∷ Looked (key.Name space_a (codes "k")) ∷ Looked (key.Cells space_a (codes "k")) ∷ Asked (Cell (top (codes "A")) (codes "k") []) (gives (whole 2)) ∷ [])
    (Gives (gives (whole 2)))

-- without the space it is no such node
abbrev pub NoSpaceNoNode : Type 0
NoSpaceNoNode = Runs text.emptied nested_v (Looked (key.Input nested_v) ∷ Looked (key.Cells space_ab (codes "v")) ∷ []) NoSuch

-- ---- items with a base and references

-- the space of S[4], whose names are those of P, k and z
abbrev pub based_reply : Reply
based_reply = record { value = Space (in_item (whole 4)); namespace = Some (record { at = in_item (whole 4); source = space_p; overlay = (codes "k", whole 4) ∷ (codes "z", whole 5) ∷ [] }) }

abbrev pub based_events : List Event
based_events = Looked (key.Params space_s) ∷ Looked (key.Name space_s (codes "p")) ∷ Noted (read.Ref (top (codes "S")) (codes "p")) ∷ Looked (key.Exists space_p) ∷ []

abbrev pub BaseGivesSource : Type 0
BaseGivesSource = Runs text.basing (item (whole 4)) based_events (Gives based_reply)

abbrev pub based_cell : Label → Node
based_cell name = Cell (in_item (whole 4)) name []

-- S[4].v() is 40, by cells of the base
abbrev pub BaseGivesCells : Type 0
BaseGivesCells =
    Runs text.basing (based_cell (codes "v")) (Tested (key.Params space_s) ∷ Asked (item (whole 4)) based_reply ∷ Looked (key.Cells space_p (codes "v")) ∷ []) (Gives (gives (whole 40)))

-- S[4].w() is 5, by a reference that the parameter formula adds
abbrev pub AddedReference : Type 0
AddedReference =
    Runs text.basing (based_cell (codes "w")) (Tested (key.Params space_s) ∷ Asked (item (whole 4)) based_reply ∷ Looked (key.Cells space_p (codes "w")) ∷ []) (Gives (gives (whole 5)))

-- the space of S[4] without that reference, where S[4].w() finds no name z
abbrev pub bare_reply : Reply
bare_reply = record { value = Space (in_item (whole 4)); namespace = Some (record { at = in_item (whole 4); source = space_p; overlay = (codes "k", whole 4) ∷ [] }) }

abbrev pub NoAddedReference : Type 0
NoAddedReference =
    Runs text.basing_alone (based_cell (codes "w"))
    (Tested (key.Params space_s) ∷ Asked (item (whole 4)) bare_reply ∷ Looked (key.Cells space_p (codes "w")) ∷ Looked (key.Name space_p (codes "z")) ∷ Looked (key.Global (codes "z")) ∷ [])
    (Faults NoName (based_cell (codes "w")) 1)

-- a base that is no space is a fault of the item, and so of what asks it
abbrev pub WrongBase : Type 0
WrongBase =
    Runs text.basing_wrong (item (whole 4)) (Looked (key.Params space_s) ∷ []) (Faults BadItem (item (whole 4)) 1) ×
    Means (model_of text.basing_wrong) (based_cell (codes "v")) (Faults BadItem (item (whole 4)) 1)

-- ---- a display replaces a parameter

-- the space of S[4], where k is no longer 4
abbrev pub replaced_reply : Reply
replaced_reply = record { value = Space (in_item (whole 4)); namespace = Some (record { at = in_item (whole 4); source = space_s; overlay = (codes "k", whole 5) ∷ [] }) }

-- S[4] computes the reference by the parameter
abbrev pub ReferenceOverParameter : Type 0
ReferenceOverParameter = Runs text.replacing (item (whole 4)) (Looked (key.Params space_s) ∷ []) (Gives replaced_reply)

-- S[4].c() is 5
abbrev pub ParameterIsReplaced : Type 0
ParameterIsReplaced =
    Runs text.replacing (Cell (in_item (whole 4)) (codes "c") []) (Tested (key.Params space_s) ∷ Asked (item (whole 4)) replaced_reply ∷ Looked (key.Cells space_s (codes "c")) ∷ []) (Gives (gives (whole 5)))

-- ---- a reference of the model

abbrev pub global_events : List Event
global_events =
    Looked (key.Input (main_cell (codes "c") [])) ∷ Looked (key.Cells main (codes "c")) ∷ Looked (key.Name main (codes "rate")) ∷ Looked (key.Global (codes "rate")) ∷ Noted (read.Global (codes "rate")) ∷ []

-- c() is 5, and reads the reference as one of the model
abbrev pub ModelReferenceIsFound : Type 0
ModelReferenceIsFound =
    Runs text.with_global (main_cell (codes "c") []) global_events (Gives (gives (whole 5))) × HasReads (model_of text.with_global) (main_cell (codes "c") []) (read.Global (codes "rate") ∷ [])

-- ---- a default

-- f(1), and f(1, 7)
abbrev pub short_f : Node
short_f = main_cell (codes "f") (whole 1 ∷ [])

abbrev pub bound_f : Node
bound_f = main_cell (codes "f") (whole 1 ∷ whole 7 ∷ [])

abbrev pub DefaultIsBound : Type 0
DefaultIsBound = BindsTo (model_of text.with_default) short_f bound_f

-- what c() does, where f(1, 7) gives this
abbrev pub asking_events : ℕ → List Event
asking_events n =
    Looked (key.Input (main_cell (codes "c") [])) ∷ Looked (key.Cells main (codes "c")) ∷ Looked (key.Name main (codes "f")) ∷ Looked (key.Cells main (codes "f")) ∷ Asked bound_f (gives (whole n)) ∷ []

-- c() is 8
abbrev pub DefaultIsAsked : Type 0
DefaultIsAsked = Runs text.with_default (main_cell (codes "c") []) (asking_events 8) (Gives (gives (whole 8)))

-- ---- an input

-- it stands under the bound form: f(1, 7) is 9 by its input alone, and reads nothing
abbrev pub InputIsBound : Type 0
InputIsBound = Runs text.with_input bound_f (Looked (key.Input bound_f) ∷ []) (Gives (gives (whole 9))) × HasReads (model_of text.with_input) bound_f []

-- c() is 9, and reads f(1, 7)
abbrev pub InputIsAsked : Type 0
InputIsAsked = Runs text.with_input (main_cell (codes "c") []) (asking_events 9) (Gives (gives (whole 9))) × HasReads (model_of text.with_input) (main_cell (codes "c") []) (read.Node bound_f ∷ [])
