-- Evaluations that answer a fault or a ring.
use Rattle.std.proofs.Common.{◌≡◌, Err, ℕ, Bool, false, ◌&&◌, inl, inr, List, [], ◌∷◌, refl, sym, ap, subst, arith, pos, codes}
use Rattle.mx_c3.specs.Merge.{merge}
use Rattle.mx_c3.specs.Linearisation.{c3}
use Rattle.mx_value.specs.declared.node.Node.{Node}
use Rattle.mx_value.specs.declared.fault.FaultKind.TheVariants.{NoName}
use Rattle.mx_value.specs.declared.refusal.EvalRefusal.TheVariants.{Fault, Ring}
use Rattle.mx_edit.specs.Entry.{Entry}
use Rattle.mx_edit.specs.declared.key.Key.TheVariants as key
use Rattle.mx_runs.specs.Lists.{Has}
use Rattle.mx_runs.specs.Runs.{Model, Asks, Event, Outcome, Faults, Looked}
use Rattle.mx_runs.specs.Inputs.{is_input, is_value}
use Rattle.mx_runs.specs.Meaning.{Means, Leads}
use Rattle.mx_runs.specs.Chains.{DoesAsk, Reaches, Itself, Through, HasValue, MeansNothing}
use Rattle.mx_runs.proofs.Runs.{asked_by_end}
use Rattle.mx_runs.proofs.Reach.{reach_within}
use Rattle.mx_runs.proofs.Meanings.{finished, failure_no_value}
use Rattle.mx_runs.proofs.Events.{asked_is_ask}
use Rattle.mx_meaning.specs.Laws.{BindsTo}
use Rattle.mx_formula_examples.proofs.Rules.{top, below}
use Rattle.mx_formula_examples.proofs.NodeRules.{means}
use Rattle.mx_formula_examples.proofs.Worked.{one_name, one_bound}
use Rattle.mx_answers.specs.Held.{nodes_of, IsRight}
use Rattle.mx_answers.specs.Records.{IsRecordOf, IsRightMemo}
use Rattle.mx_state.specs.Model.{model_of}
use Rattle.mx_state.specs.Evaluations.{AsBound}
use Rattle.mx_state.proofs.Evaluated.{value_is_answered}
use Rattle.mx_state_examples.specs.Texts.{main, nested, asking_round, mended}
use Rattle.mx_state_examples.specs.Rows as row
use Rattle.mx_state_examples.proofs.Nested.{no_name_above}
use Rattle.mx_state_examples.proofs.Circles.{f_asks, g_asks, f_first, g_first, round_distinct, g_run, mended_run, cells_ask_each_other}
use Rattle.mx_state_examples.proofs.Rounds.{round_lost}
use Rattle.mx_state_examples.specs.Rings.{mended_events}
use Rattle.mx_state_examples.specs.Evaluations.{holding, literal_entry, f_cell, g_cell, f_entry, FaultIsEvaluated, RingIsEvaluated, MendedIsEvaluated}
use Rattle.mx_state_examples.proofs.Entries.{asks_nothing, asks_one, keys_last, asks_last, right_memo, self_bound}
use Rattle.mx_state_examples.proofs.Lost.{completes_lost, only_ask, nothing_held}

pub none_right : (model : Model) → IsRight model []
none_right model = record { means = λ e h. absurd h; own = λ n h. absurd h; once = tt; closed = λ n m h a. absurd h; room = omega arith }

-- ---- a fault

abbrev fault : Outcome
fault = Faults NoName row.nested_v 1

abbrev fault_events : List Event
fault_events = Looked (key.Input row.nested_v) ∷ Looked (key.Cells (codes "A" ∷ codes "B" ∷ []) (codes "v")) ∷ Looked (key.Name (codes "A" ∷ codes "B" ∷ []) (codes "k")) ∷ Looked (key.Global (codes "k")) ∷ []

fault_means : Means (model_of nested) row.nested_v fault
fault_means = finished (model_of nested) row.nested_v fault_events fault tt no_name_above

fault_alone : (x : Node) → Reaches (model_of nested) row.nested_v x → row.nested_v ≡ x
fault_alone x r =
    reach_within (model_of nested) (λ y. row.nested_v ≡ y)
    (λ y z e a. absurd (asked_by_end (model_of nested) ((model_of nested).body row.nested_v) z a.go fault a.events fault_events (subst (λ n. Leads (model_of nested) ((model_of nested).body n) a.events (Asks z a.go)) (sym e) a.leads) no_name_above))
    row.nested_v x refl r

fault_bound : BindsTo (model_of nested) row.nested_v row.nested_v
unfolding c3 merge
fault_bound = self_bound (codes "v") [] (below (codes "B") (top (codes "A")) refl) refl refl refl

pub fault_is_evaluated : FaultIsEvaluated
fault_is_evaluated =
    nothing_held nested row.nested_v row.nested_v (Err (Fault NoName row.nested_v 1)) 1 (AsBound fault_bound) (
      fault_means,
      completes_lost (model_of nested) [] [] (none_right (model_of nested)) row.nested_v (row.nested_v ∷ []) ((λ h. h), tt) (λ x h. absurd h)
          (λ x h. elim h [ inl e ↦ subst (λ y. Reaches (model_of nested) row.nested_v y × (HasValue (model_of nested) y → ⊥)) e (Itself, failure_no_value (model_of nested) row.nested_v fault tt fault_means) | inr z ↦ absurd z ])
          (λ x r. inr (inl (fault_alone x r))) 5000 (omega arith),
    )

-- ---- a ring

abbrev round : List Node
round = f_cell ∷ g_cell ∷ []

lost : (k : Node) → Has round k → MeansNothing (model_of asking_round) k
lost = round_lost (model_of asking_round) round f_cell (inl refl) (f_asks, (g_asks, tt))

-- each asks the other alone
in_round : (x y : Node) → Has round x → DoesAsk (model_of asking_round) x y → Has round y
in_round x y h a =
    elim h [
      | inl e ↦ inr (inl (only_ask (model_of asking_round) f_cell g_cell y f_asks f_first (lost g_cell (inr (inl refl))) (subst (λ z. DoesAsk (model_of asking_round) z y) (sym e) a)))
      | inr r ↦ elim r [
        | inl e ↦ inl (only_ask (model_of asking_round) g_cell f_cell y g_asks g_first (lost f_cell (inl refl)) (subst (λ z. DoesAsk (model_of asking_round) z y) (sym e) a))
        | inr z ↦ absurd z
      ]
    ]

reached : (x : Node) → Has round x → Reaches (model_of asking_round) f_cell x
reached x h =
    elim h [
      | inl e ↦ subst (λ y. Reaches (model_of asking_round) f_cell y) e Itself
      | inr r ↦ elim r [ inl e ↦ subst (λ y. Reaches (model_of asking_round) f_cell y) e (Through g_cell f_asks Itself) | inr z ↦ absurd z ]
    ]

ring_bound : BindsTo (model_of asking_round) f_cell f_cell
unfolding c3 merge
ring_bound = self_bound (codes "f") (row.whole 1 ∷ []) (top (codes "Main")) refl refl (one_bound (codes "n") (pos 1))

pub ring_is_evaluated : RingIsEvaluated
ring_is_evaluated =
    nothing_held asking_round f_cell f_cell (Err (Ring round)) 2 (AsBound ring_bound) (
      cells_ask_each_other.0,
      cells_ask_each_other.1,
      completes_lost (model_of asking_round) [] [] (none_right (model_of asking_round)) f_cell round round_distinct (λ x h. absurd h)
          (λ x h. (reached x h, λ v. lost x h _ v.means))
          (λ x r. inr (reach_within (model_of asking_round) (λ y. Has round y) in_round f_cell x (inl refl) r)) 5000 (omega arith),
    )

-- ---- the ring is mended

own : (name : List ℕ) → is_input (model_of mended) (row.main_cell name (row.whole 1 ∷ [])) ≡ false
own name = ap (λ (b : Bool). b && is_value ((model_of mended).look (key.Input (row.main_cell name (row.whole 1 ∷ []))))) (one_name (codes "Main"))

g_record : IsRecordOf (model_of mended) (literal_entry g_cell main (codes "g") 7)
g_record = asks_nothing (model_of mended) (literal_entry g_cell main (codes "g") 7) (row.literal_events (row.top (codes "Main")) main (codes "g") (row.whole 1 ∷ [])) g_run.leads refl refl refl refl refl refl

abbrev before : List Event
before = Looked (key.Input f_cell) ∷ Looked (key.Cells main (codes "f")) ∷ Looked (key.Name main (codes "g")) ∷ Looked (key.Cells main (codes "g")) ∷ []

f_record : IsRecordOf (model_of mended) f_entry
f_record =
    asks_one (model_of mended) f_entry g_cell mended_events mended_run.leads (keys_last (model_of mended) g_cell (row.gives (row.whole 7)) (own (codes "g")) before) refl
    (asks_last (model_of mended) g_cell (row.gives (row.whole 7)) (own (codes "g")) before) refl refl refl

abbrev held : List Entry
held = literal_entry g_cell main (codes "g") 7 ∷ f_entry ∷ []

memo : IsRightMemo (model_of mended) held
memo =
    right_memo (model_of mended) held (g_record, (f_record, tt)) ((λ x h. h), ((λ x h. elim h [ inl e ↦ inl e | inr z ↦ absurd z ]), tt))
    (own (codes "g"), (own (codes "f"), tt)) ((λ h. elim h [ inl e ↦ round_distinct.0 (inl (sym e)) | inr z ↦ z ]), ((λ h. h), tt)) (omega arith)

f_bound : BindsTo (model_of mended) f_cell f_cell
unfolding c3 merge
f_bound = self_bound (codes "f") (row.whole 1 ∷ []) (top (codes "Main")) refl refl (one_bound (codes "n") (pos 1))

held_reached : (x : Node) → Has (nodes_of held) x → Reaches (model_of mended) f_cell x
held_reached x h =
    elim h [
      | inl e ↦ subst (λ y. Reaches (model_of mended) f_cell y) e (Through g_cell (asked_is_ask (model_of mended) f_cell _ mended_events mended_run.leads g_cell (inl refl)) Itself)
      | inr r ↦ elim r [ inl e ↦ subst (λ y. Reaches (model_of mended) f_cell y) e Itself | inr z ↦ absurd z ]
    ]

pub mended_is_evaluated : MendedIsEvaluated
mended_is_evaluated = value_is_answered (holding mended []) f_cell f_cell (row.gives (row.whole 7)) held (AsBound f_bound) (means mended_run) memo (inr (inl refl)) held_reached (omega arith)
