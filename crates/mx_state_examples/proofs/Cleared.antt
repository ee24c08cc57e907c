-- What clearings keep.
use Rattle.std.proofs.Common.{◌≡◌, true, inl, inr, List, [], ◌∷◌, ◌++◌, refl, sym, subst, codes}
use Rattle.mx_value.specs.declared.value.Value.{Value}
use Rattle.mx_value.specs.declared.value.Value.TheVariants.{Flag}
use Rattle.mx_value.specs.declared.value.Segment.{Segment}
use Rattle.mx_value.specs.declared.value.Segment.TheVariants as segment
use Rattle.mx_value.specs.declared.node.Node.{Node}
use Rattle.mx_edit.specs.Entry.{Entry}
use Rattle.mx_edit.specs.declared.scope.Scope.{Scope}
use Rattle.mx_edit.specs.declared.scope.Scope.TheVariants as scope
use Rattle.mx_runs.specs.Lists.{Has}
use Rattle.mx_formula_examples.proofs.Equations.{out_space}
use Rattle.mx_answers.specs.Held.{nodes_of}
use Rattle.mx_answers.specs.Retention.{BeginsWith, IsSpaceIn, IsInScope, IsTouched, Here, ByAsk, Sifts, NoneLeft, Keeps, Drops}
use Rattle.mx_answers.specs.Records.{IsRightMemo}
use Rattle.mx_answers.proofs.Clearing.{sifted_by_scope}
use Rattle.mx_model.specs.Records.{ModelRecord}
use Rattle.mx_model.specs.Keys.{key_result}
use Rattle.mx_state.specs.Model.{model_of}
use Rattle.mx_state.specs.Changes.{Clearing}
use Rattle.mx_state.proofs.Bound.{inputs_end}
use Rattle.mx_state_examples.specs.Texts.{main, choosing, multiplying}
use Rattle.mx_state_examples.specs.Rows.{whole, top, in_item}
use Rattle.mx_state_examples.specs.Evaluations.{holding, literal_entry, item_entry, product_entry, choice_entry, of_two, of_true, of_a, of_choice, a_cell, c_cell}
use Rattle.mx_state_examples.specs.Clearings as clear
use Rattle.mx_state_examples.proofs.Choice.{a_not_c, memo}
use Rattle.mx_state_examples.proofs.Products.{segments_differ, all_distinct, all_memo}

-- ---- what is not touched

-- each held node of these is out of scope, and asks none but these
abbrev Spares : (Entry → Type 0) → (Node → Type 0) → List Entry → Type 0
Spares In K [] = Unit {0}
Spares In K (e ∷ es) = (K e.node → (In e → ⊥) × ((m : Node) → Has e.asks m → K m)) × Spares In K es

each_spared : (In : Entry → Type 0) (K : Node → Type 0) (es : List Entry) → Spares In K es → (e : Entry) → Has es e → K e.node → (In e → ⊥) × ((m : Node) → Has e.asks m → K m)
each_spared In K [] s e h = absurd h
each_spared In K (d ∷ es) s e h = elim h [ inl i ↦ subst (λ x. K x.node → (In x → ⊥) × ((m : Node) → Has x.asks m → K m)) i s.0 | inr r ↦ each_spared In K es s.1 e r ]

untouched : (In : Entry → Type 0) (K : Node → Type 0) (held : List Entry) → Spares In K held → (n : Node) → IsTouched In held n → K n → ⊥
untouched In K held s n (Here e h i) k = (each_spared In K held s e h k).0 i
untouched In K held s n (ByAsk e h m a t) k = untouched In K held s m t ((each_spared In K held s e h k).1 m a)

cleared : (text : ModelRecord) (scope : Scope) (held kept : List Entry) → IsRightMemo (model_of text) held → Sifts (IsTouched (IsInScope scope) held) held kept → Clearing (holding text held) scope (holding text kept)
cleared text scope held kept right sifts = record { clears = (sifted_by_scope (model_of text) scope held kept (inputs_end (key_result text)) right sifts).clears; text = refl; limit = refl }

-- ---- a node with what asked it

abbrev a_entry : Entry
a_entry = literal_entry a_cell main (codes "a") 1

pub asked_is_cleared : clear.AskedIsCleared
asked_is_cleared =
    cleared choosing (scope.One a_cell) of_choice [] memo
    (Drops a_entry _ _ (Here a_entry (inl refl) refl) (Drops choice_entry _ _ (ByAsk choice_entry (inr (inl refl)) a_cell (inl refl) (Here a_entry (inl refl) refl)) NoneLeft))

a_spared : Spares (IsInScope (scope.One c_cell)) (λ n. n ≡ a_cell) of_choice
a_spared = ((λ k. ((λ w. a_not_c (sym w)), λ m h. absurd h)), ((λ k. absurd (a_not_c k)), tt))

pub asker_is_cleared : clear.AskerIsCleared
asker_is_cleared =
    cleared choosing (scope.One c_cell) of_choice of_a memo
    (Keeps a_entry _ _ (λ t. untouched (IsInScope (scope.One c_cell)) (λ n. n ≡ a_cell) of_choice a_spared a_cell t refl) (Drops choice_entry _ _ (Here choice_entry (inr (inl refl)) refl) NoneLeft))

-- ---- items and cells in them

abbrev held : List Entry
held = of_two ++ of_true

-- the item node is in the space at which its own space stands, or above
item_in : (v : Value) (at : List Segment) → BeginsWith at (in_item v) → IsInScope (scope.Space at) (item_entry v)
item_in v at b = subst (λ content. IsSpaceIn at content) (sym (out_space (in_item v))) b

item_out : (v : Value) (at : List Segment) → IsInScope (scope.Space at) (item_entry v) → BeginsWith at (in_item v)
item_out v at i = subst (λ content. IsSpaceIn at content) (out_space (in_item v)) i

-- S[True] is not in S[2]
not_begun : BeginsWith (in_item (whole 2)) (in_item (Flag true)) → ⊥
not_begun b =
    let e : segment.Name (codes "S") ∷ segment.Item (Flag true ∷ []) ∷ [] ≡ segment.Name (codes "S") ∷ segment.Item (whole 2 ∷ []) ∷ b.rest = b.is in
    segments_differ (let f : segment.Item (whole 2 ∷ []) ≡ segment.Item (Flag true ∷ []) = cc in f)

abbrev InTwo : Entry → Type 0
InTwo = IsInScope (scope.Space (in_item (whole 2)))

abbrev OfTrue : Node → Type 0
OfTrue = Has (nodes_of of_true)

true_spared : Spares InTwo OfTrue held
true_spared = (
  (λ k. absurd (all_distinct.0 (inr k))),
  (
    (λ k. absurd (all_distinct.1.0 k)),
    ((λ k. ((λ i. not_begun (item_out (Flag true) (in_item (whole 2)) i)), λ m h. absurd h)), ((λ k. (not_begun, λ m h. elim h [ inl e ↦ inl e | inr z ↦ absurd z ])), tt)),
  ),
)

pub item_is_cleared : clear.ItemIsCleared
item_is_cleared =
    cleared multiplying (scope.Space (in_item (whole 2))) held of_true all_memo
    (Drops (item_entry (whole 2)) _ _ (Here (item_entry (whole 2)) (inl refl) (item_in (whole 2) (in_item (whole 2)) (record { rest = []; is = refl })))
    (Drops (product_entry (whole 2) 2) _ _ (Here (product_entry (whole 2) 2) (inr (inl refl)) (record { rest = []; is = refl }))
    (Keeps (item_entry (Flag true)) _ _ (λ t. untouched InTwo OfTrue held true_spared _ t (inl refl)) (Keeps (product_entry (Flag true) 1) _ _ (λ t. untouched InTwo OfTrue held true_spared _ t (inr (inl refl))) NoneLeft))))

abbrev CellsInTwo : Entry → Type 0
CellsInTwo = IsInScope (scope.Cells (in_item (whole 2)) (codes "c"))

abbrev Others : Node → Type 0
Others = Has (nodes_of (item_entry (whole 2) ∷ of_true))

others_spared : Spares CellsInTwo Others held
others_spared = (
  (λ k. ((λ i. i), λ m h. absurd h)),
  (
    (λ k. absurd (elim k [ inl e ↦ all_distinct.0 (inl (sym e)) | inr r ↦ all_distinct.1.0 r ])),
    (
      (λ k. ((λ i. i), λ m h. absurd h)),
      ((λ k. ((λ i. not_begun (record { rest = []; is = i.0 })), λ m h. elim h [ inl e ↦ inr (inl e) | inr z ↦ absurd z ])), tt),
    ),
  ),
)

pub cells_are_cleared : clear.CellsAreCleared
cells_are_cleared =
    cleared multiplying (scope.Cells (in_item (whole 2)) (codes "c")) held (item_entry (whole 2) ∷ of_true) all_memo
    (Keeps (item_entry (whole 2)) _ _ (λ t. untouched CellsInTwo Others held others_spared _ t (inl refl))
    (Drops (product_entry (whole 2) 2) _ _ (Here (product_entry (whole 2) 2) (inr (inl refl)) (refl, refl))
    (Keeps (item_entry (Flag true)) _ _ (λ t. untouched CellsInTwo Others held others_spared _ t (inr (inl refl)))
    (Keeps (product_entry (Flag true) 1) _ _ (λ t. untouched CellsInTwo Others held others_spared _ t (inr (inr (inl refl)))) NoneLeft))))

abbrev CellsOutside : Entry → Type 0
CellsOutside = IsInScope (scope.Cells (top (codes "S")) (codes "c"))

-- an address with an item is another one
longer : (v : Value) → in_item v ≡ top (codes "S") → ⊥
longer v e = cc

all_spared : Spares CellsOutside (λ n. Unit {0}) held
all_spared = (
  (λ k. ((λ i. i), λ m h. tt)),
  ((λ k. ((λ i. longer (whole 2) i.0), λ m h. tt)), ((λ k. ((λ i. i), λ m h. tt)), ((λ k. ((λ i. longer (Flag true) i.0), λ m h. tt)), tt))),
)

stays : (n : Node) → IsTouched CellsOutside held n → ⊥
stays n t = untouched CellsOutside (λ x. Unit {0}) held all_spared n t tt

pub cells_outside_are_cleared : clear.CellsOutsideAreCleared
cells_outside_are_cleared =
    cleared multiplying (scope.Cells (top (codes "S")) (codes "c")) held held all_memo
    (Keeps (item_entry (whole 2)) _ _ (stays _) (Keeps (product_entry (whole 2) 2) _ _ (stays _) (Keeps (item_entry (Flag true)) _ _ (stays _) (Keeps (product_entry (Flag true) 1) _ _ (stays _) NoneLeft))))

-- the address of an item of S begins with S
begun : (v : Value) → BeginsWith (top (codes "S")) (in_item v)
begun v = record { rest = segment.Item (v ∷ []) ∷ []; is = refl }

pub space_is_cleared : clear.SpaceIsCleared
space_is_cleared =
    cleared multiplying (scope.Space (top (codes "S"))) held [] all_memo
    (Drops (item_entry (whole 2)) _ _ (Here (item_entry (whole 2)) (inl refl) (item_in (whole 2) (top (codes "S")) (begun (whole 2))))
    (Drops (product_entry (whole 2) 2) _ _ (Here (product_entry (whole 2) 2) (inr (inl refl)) (begun (whole 2)))
    (Drops (item_entry (Flag true)) _ _ (Here (item_entry (Flag true)) (inr (inr (inl refl))) (item_in (Flag true) (top (codes "S")) (begun (Flag true))))
    (Drops (product_entry (Flag true) 1) _ _ (Here (product_entry (Flag true) 1) (inr (inr (inr (inl refl)))) (begun (Flag true))) NoneLeft))))
