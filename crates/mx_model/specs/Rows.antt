-- Small models, and what the definitions say of them.
use Rattle.std.specs.Prelude.{◌≡◌, false, ℕ, List, [], ◌∷◌, Some, Err, codes}
use Rattle.mx_c3.specs.declared.space.SpaceId.{SpaceId}
use Rattle.mx_syntax.specs.declared.stmt.Formula.{Formula}
use Rattle.mx_edit.specs.declared.edit.Edit.{Edit}
use Rattle.mx_edit.specs.declared.edit.Edit.TheVariants as edit
use Rattle.mx_edit.specs.declared.refusal.EditRefusal.TheVariants as refusal
use Rattle.mx_model.specs.Records.{Name, Path, ModelRecord, beginning}
use Rattle.mx_model.specs.declared.layers.Layered.TheVariants.{Layers, NoOrder, NotStatic}
use Rattle.mx_model.specs.Layers.{layers}
use Rattle.mx_model.specs.Binding.{Cells, binding}
use Rattle.mx_model.specs.Refused.{record_trouble}
use Rattle.mx_model.specs.Apply.{Apply, changed}

-- the text that these edits make in turn
abbrev pub made : ModelRecord → List Edit → ModelRecord
made text [] = text
made text (e ∷ edits) = made (changed text e) edits

abbrev o : Name
o = codes "O"

abbrev a : Name
a = codes "A"

abbrev b : Name
b = codes "B"

abbrev c : Name
c = codes "C"

abbrev at : Name → Path
at name = name ∷ []

abbrev below : Name → Name → Path
below name child = name ∷ child ∷ []

abbrev top : Name → Edit
top name = edit.NewSpace [] name

abbrev id : ℕ → SpaceId
id n = record { 0 = n }

-- ---- a diamond: A and B have the base O, and C has the bases A and B. Each space stands before its bases: C, A, B, O

abbrev diamond : ModelRecord
diamond =
    made beginning
    (top o ∷ top a ∷ top b ∷ top c ∷ edit.SetBases (at a) (at o ∷ []) ∷ edit.SetBases (at b) (at o ∷ []) ∷ edit.SetBases (at c) (at a ∷ at b ∷ []) ∷ [])

abbrev pub DiamondInOrder : Type 0
DiamondInOrder = layers diamond (at c) ≡ Layers (id 4 ∷ id 2 ∷ id 3 ∷ id 1 ∷ [])

-- ---- two bases that want the other order of their bases have no order together

abbrev crossed : ModelRecord
crossed =
    made beginning
    (top a ∷ top b ∷ top c ∷ top o ∷ edit.SetBases (at c) (at a ∷ at b ∷ []) ∷ edit.SetBases (at o) (at b ∷ at a ∷ []) ∷ edit.SetBases (codes "Main" ∷ []) (at c ∷ at o ∷ []) ∷ [])

abbrev pub CrossedHasNoOrder : Type 0
CrossedHasNoOrder = layers crossed (codes "Main" ∷ []) ≡ NoOrder

-- ---- A has a child B, and C has the base A: so C has a child of the name B, whose members are those of the first

abbrev child : ModelRecord
child = made beginning (top a ∷ edit.NewSpace (at a) b ∷ top c ∷ edit.SetBases (at c) (at a ∷ []) ∷ [])

abbrev pub ChildIsDerived : Type 0
ChildIsDerived = layers child (below c b) ≡ Layers (id 2 ∷ [])

-- cells of C that have the name of that child hide it from formulas, and it stays a static path
abbrev hidden : Formula → ModelRecord
hidden f = changed child (edit.SetCells (at c) b f)

abbrev pub HiddenChildStays : Type 0
HiddenChildStays = (f : Formula) → (layers (hidden f) (below c b) ≡ Layers (id 2 ∷ [])) × (binding (hidden f) (at c) b ≡ Some (Cells (record { formula = f; allow_none = false })))

-- without the base there is no such path
abbrev pub NoBaseNoChild : Type 0
NoBaseNoChild = layers (changed child (edit.SetBases (at c) [])) (below c b) ≡ NotStatic

-- ---- a base brings its record and its bases' records alone: C has the base A.B, and A has the base O with a child B too. So
-- A.B has two layers, and C has none of O.B

abbrev alone : ModelRecord
alone =
    made beginning
    (top o ∷ edit.NewSpace (at o) b ∷ top a ∷ edit.NewSpace (at a) b ∷ edit.SetBases (at a) (at o ∷ []) ∷ top c ∷ edit.SetBases (at c) (below a b ∷ []) ∷ [])

abbrev pub BaseBringsItsRecord : Type 0
BaseBringsItsRecord = (layers alone (below a b) ≡ Layers (id 4 ∷ id 2 ∷ [])) × (layers alone (at c) ≡ Layers (id 5 ∷ id 4 ∷ []))

-- ---- refusals: a name that is taken, a space and a member that are not there, a ring of a space and its child, and a space
-- that another one has as base

abbrev nested : ModelRecord
nested = made beginning (top a ∷ edit.NewSpace (at a) b ∷ [])

abbrev used : ModelRecord
used = made nested (top c ∷ edit.SetBases (at c) (at a ∷ []) ∷ [])

abbrev pub RefusalsInTurn : Type 0
RefusalsInTurn =
    (record_trouble beginning (top (codes "Main")) ≡ Some refusal.NameTaken) ×
    ((f : Formula) → record_trouble beginning (edit.SetCells (at a) b f) ≡ Some refusal.NoSuchSpace) ×
    (record_trouble beginning (edit.DelCells (codes "Main" ∷ []) b) ≡ Some refusal.NoSuchMember) ×
    (record_trouble used (edit.DelSpace (at a)) ≡ Some (refusal.InUse (at c)))

abbrev pub ChildAsBaseIsRing : Type 0
ChildAsBaseIsRing = Apply nested (edit.SetBases (below a b) (at a ∷ [])) (Err (refusal.Cycle (at a ∷ below a b ∷ [])))
