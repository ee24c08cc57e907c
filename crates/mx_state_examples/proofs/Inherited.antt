-- A formula that a space takes over, evaluated.
use Rattle.std.proofs.Common.{◌≡◌, Ok, Bool, true, false, ◌&&◌, inl, inr, List, [], ◌∷◌, ◌++◌, refl, sym, ◌∙◌, ap, subst, arith, codes}
use Rattle.mx_c3.specs.Merge.{merge}
use Rattle.mx_c3.specs.Linearisation.{c3}
use Rattle.mx_value.specs.Name.{same_name}
use Rattle.mx_value.specs.declared.label.Label.{Label}
use Rattle.mx_value.specs.declared.value.Segment.{Segment, out-Segment}
use Rattle.mx_value.specs.declared.value.Segment.TheOpen.{Segment-F}
use Rattle.mx_value.specs.declared.value.Segment.TheVariants as segment
use Rattle.mx_value.specs.declared.node.Node.{Node}
use Rattle.mx_value.specs.declared.node.Node.TheVariants.{Cell, Item}
use Rattle.mx_value.specs.declared.read.Read.TheVariants as read
use Rattle.mx_edit.specs.Entry.{Entry}
use Rattle.mx_edit.specs.declared.key.Key.TheVariants as key
use Rattle.mx_runs.specs.Lists.{Has, Distinct}
use Rattle.mx_runs.specs.Runs.{Model, Event, Looked, Noted}
use Rattle.mx_runs.specs.Inputs.{is_input, is_value}
use Rattle.mx_runs.specs.Chains.{Reaches, Itself, Through}
use Rattle.mx_runs.proofs.Events.{asked_is_ask}
use Rattle.mx_meaning.specs.Namespaces.{Step}
use Rattle.mx_meaning.specs.Laws.{BindsTo}
use Rattle.mx_meaning.proofs.Walking.{out_name}
use Rattle.mx_formula_examples.proofs.Rules.{top}
use Rattle.mx_formula_examples.proofs.NodeRules.{means}
use Rattle.mx_formula_examples.proofs.Worked.{one_name, two_names}
use Rattle.mx_answers.specs.Held.{nodes_of}
use Rattle.mx_answers.specs.Records.{IsRecordOf, IsRightMemo}
use Rattle.mx_state.specs.Model.{model_of}
use Rattle.mx_state.specs.Evaluations.{AsBound, Evaluates}
use Rattle.mx_state.proofs.Evaluated.{value_is_answered}
use Rattle.mx_state_examples.specs.Texts.{space_ab, space_sb, inheriting}
use Rattle.mx_state_examples.specs.Rows as row
use Rattle.mx_state_examples.proofs.Inheriting.{ab_run, sb_run, a_run, s_run, taken_over_reads}
use Rattle.mx_state_examples.specs.Evaluations.{holding, literal_entry, v_cell, w_cell, w_entry, of_space, TakenOverIsEvaluated, TakenOverHasPrecedents}
use Rattle.mx_state_examples.proofs.Entries.{asks_nothing, asks_one, keys_last, asks_last, right_memo, self_bound, reads_told}

abbrev m : Model
m = model_of inheriting

v_own : (here : Label) → is_input m (v_cell here) ≡ false
v_own here = ap (λ (b : Bool). b && is_value (m.look (key.Input (v_cell here)))) (two_names here (codes "B"))

w_own : (here : Label) → is_input m (w_cell here) ≡ false
w_own here = ap (λ (b : Bool). b && is_value (m.look (key.Input (w_cell here)))) (one_name here)

-- the run of w() before its ask
abbrev pub before : Label → Label → List Event
before here there =
    Looked (key.Input (w_cell here)) ∷ Looked (key.Cells (here ∷ []) (codes "w")) ∷ Looked (key.Name (here ∷ []) (codes "b")) ∷ Noted (read.Ref (row.top here) (codes "b"))
    ∷ Looked (key.Exists (there ∷ codes "B" ∷ [])) ∷ Looked (key.Name (there ∷ codes "B" ∷ []) (codes "v")) ∷ Looked (key.Cells (there ∷ codes "B" ∷ []) (codes "v")) ∷ []

pub av_record : IsRecordOf m (literal_entry (v_cell (codes "A")) space_ab (codes "v") 1)
av_record = asks_nothing m (literal_entry (v_cell (codes "A")) space_ab (codes "v") 1) (row.literal_events (row.two (codes "A") (codes "B")) space_ab (codes "v") []) ab_run.leads refl refl refl refl refl refl

pub sv_record : IsRecordOf m (literal_entry (v_cell (codes "S")) space_sb (codes "v") 2)
sv_record = asks_nothing m (literal_entry (v_cell (codes "S")) space_sb (codes "v") 2) (row.literal_events (row.two (codes "S") (codes "B")) space_sb (codes "v") []) sb_run.leads refl refl refl refl refl refl

pub aw_record : IsRecordOf m (w_entry (codes "A") (codes "A") 10)
aw_record =
    asks_one m (w_entry (codes "A") (codes "A") 10) (v_cell (codes "A")) (row.w_events (codes "A") (codes "A") 1) a_run.leads (keys_last m (v_cell (codes "A")) (row.gives (row.whole 1)) (v_own (codes "A")) (before (codes "A") (codes "A"))) refl
    (asks_last m (v_cell (codes "A")) (row.gives (row.whole 1)) (v_own (codes "A")) (before (codes "A") (codes "A"))) refl refl refl

pub sw_record : IsRecordOf m (w_entry (codes "S") (codes "S") 20)
sw_record =
    asks_one m (w_entry (codes "S") (codes "S") 20) (v_cell (codes "S")) (row.w_events (codes "S") (codes "S") 2) s_run.leads (keys_last m (v_cell (codes "S")) (row.gives (row.whole 2)) (v_own (codes "S")) (before (codes "S") (codes "S"))) refl
    (asks_last m (v_cell (codes "S")) (row.gives (row.whole 2)) (v_own (codes "S")) (before (codes "S") (codes "S"))) refl refl refl

-- ---- the nodes differ

abbrev cells_name : Node → Label
cells_name (Cell at name args) = name
cells_name (Item at args) = []

pub v_not_w : (a b : Label) → w_cell a ≡ v_cell b → ⊥
v_not_w a b e = let h : true ≡ false = ap (λ n. same_name (cells_name n) (codes "w")) e in cc

abbrev name_in : Step → Label
name_in (Segment-F.Name name) = name
name_in (Segment-F.Item args) = []

-- the first name of the address
abbrev first_name : List Segment → Label
first_name [] = []
first_name (s ∷ more) = name_in (out-Segment s)

abbrev address : Node → List Segment
address (Cell at name args) = at
address (Item at args) = at

others_differ : (n k : Node) → first_name (address n) ≡ codes "S" → first_name (address k) ≡ codes "A" → n ≡ k → ⊥
others_differ n k a b e =
    let f : codes "S" ≡ codes "A" = sym a ∙ ap (λ x. first_name (address x)) e ∙ b in
    let h : true ≡ false = ap (λ name. same_name name (codes "S")) f in cc

named : (here : Label) (more : List Segment) → first_name (segment.Name here ∷ more) ≡ here
named here more = ap (λ (s : Step). name_in s) (out_name here)

abbrev s_first : Label
s_first = codes "S"

abbrev a_first : Label
a_first = codes "A"

-- ---- right memos

abbrev of_a : List Entry
of_a = of_space (codes "A") 1 10

abbrev of_s : List Entry
of_s = of_space (codes "S") 2 20

a_memo : IsRightMemo m of_a
a_memo =
    right_memo m of_a (av_record, (aw_record, tt)) ((λ x h. h), ((λ x h. elim h [ inl e ↦ inl e | inr z ↦ absurd z ]), tt))
    (v_own a_first, (w_own a_first, tt)) ((λ h. elim h [ inl e ↦ v_not_w a_first a_first e | inr z ↦ z ]), ((λ h. h), tt)) (omega arith)

all_distinct : Distinct (nodes_of (of_a ++ of_s))
all_distinct = (
  (λ h. elim h [
    | inl e ↦ v_not_w a_first a_first e
    | inr r ↦ elim r [
      | inl e ↦ others_differ (v_cell s_first) (v_cell a_first) (named s_first (segment.Name (codes "B") ∷ [])) (named a_first (segment.Name (codes "B") ∷ [])) e
      | inr q ↦ elim q [ inl e ↦ v_not_w s_first a_first e | inr z ↦ z ]
    ]
  ]),
  (
    (λ h. elim h [
      | inl e ↦ v_not_w a_first s_first (sym e)
      | inr q ↦ elim q [ inl e ↦ others_differ (w_cell s_first) (w_cell a_first) (named s_first []) (named a_first []) e | inr z ↦ z ]
    ]),
    ((λ h. elim h [ inl e ↦ v_not_w s_first s_first e | inr z ↦ z ]), ((λ h. h), tt)),
  ),
)

pub all_memo : IsRightMemo m (of_a ++ of_s)
all_memo =
    right_memo m (of_a ++ of_s) (av_record, (aw_record, (sv_record, (sw_record, tt))))
    ((λ x h. h), ((λ x h. elim h [ inl e ↦ inl e | inr z ↦ absurd z ]), ((λ x h. absurd h), ((λ x h. elim h [ inl e ↦ inl e | inr z ↦ absurd z ]), tt))))
    (v_own a_first, (w_own a_first, (v_own s_first, (w_own s_first, tt)))) all_distinct (omega arith)

-- ---- evaluations

a_bound : BindsTo m (w_cell (codes "A")) (w_cell (codes "A"))
unfolding c3 merge
a_bound = self_bound (codes "w") [] (top (codes "A")) refl refl refl

s_bound : BindsTo m (w_cell (codes "S")) (w_cell (codes "S"))
unfolding c3 merge
s_bound = self_bound (codes "w") [] (top (codes "S")) refl refl refl

a_reached : (x : Node) → Has (nodes_of of_a) x → Reaches m (w_cell (codes "A")) x
a_reached x h =
    elim h [
      | inl e ↦ subst (λ y. Reaches m (w_cell (codes "A")) y) e (Through (v_cell (codes "A")) (asked_is_ask m (w_cell (codes "A")) _ (row.w_events (codes "A") (codes "A") 1) a_run.leads (v_cell (codes "A")) (inl refl)) Itself)
      | inr r ↦ elim r [ inl e ↦ subst (λ y. Reaches m (w_cell (codes "A")) y) e Itself | inr z ↦ absurd z ]
    ]

pub s_reached : (x : Node) → Has (nodes_of of_s) x → Reaches m (w_cell (codes "S")) x
s_reached x h =
    elim h [
      | inl e ↦ subst (λ y. Reaches m (w_cell (codes "S")) y) e (Through (v_cell (codes "S")) (asked_is_ask m (w_cell (codes "S")) _ (row.w_events (codes "S") (codes "S") 2) s_run.leads (v_cell (codes "S")) (inl refl)) Itself)
      | inr r ↦ elim r [ inl e ↦ subst (λ y. Reaches m (w_cell (codes "S")) y) e Itself | inr z ↦ absurd z ]
    ]

pub taken_over_is_evaluated : TakenOverIsEvaluated
taken_over_is_evaluated = record {
  first = value_is_answered (holding inheriting []) (w_cell (codes "A")) (w_cell (codes "A")) (row.gives (row.whole 10)) of_a (AsBound a_bound) (means a_run) a_memo (inr (inl refl)) a_reached (omega arith);
  then_other = value_is_answered (holding inheriting of_a) (w_cell (codes "S")) (w_cell (codes "S")) (row.gives (row.whole 20)) of_s (AsBound s_bound) (means s_run) all_memo (inr (inr (inr (inl refl)))) s_reached (omega arith);
}

s_again : Evaluates (holding inheriting (of_a ++ of_s)) (w_cell (codes "S")) (Ok (row.whole 20)) 0 (holding inheriting (of_a ++ of_s))
s_again = value_is_answered (holding inheriting (of_a ++ of_s)) (w_cell (codes "S")) (w_cell (codes "S")) (row.gives (row.whole 20)) [] (AsBound s_bound) (means s_run) all_memo (inr (inr (inr (inl refl)))) (λ x h. absurd h) (omega arith)

pub taken_over_has_precedents : TakenOverHasPrecedents
taken_over_has_precedents = reads_told (holding inheriting (of_a ++ of_s)) (holding inheriting (of_a ++ of_s)) (w_cell (codes "S")) (w_cell (codes "S")) (row.whole 20) 0 _ s_again (AsBound s_bound) taken_over_reads
