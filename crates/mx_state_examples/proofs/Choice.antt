-- A choice, evaluated.
use Rattle.std.proofs.Common.{◌≡◌, Bool, true, false, ◌&&◌, inl, inr, List, [], ◌∷◌, refl, ap, subst, arith, codes}
use Rattle.mx_c3.specs.Merge.{merge}
use Rattle.mx_c3.specs.Linearisation.{c3}
use Rattle.mx_value.specs.Name.{same_name}
use Rattle.mx_value.specs.declared.label.Label.{Label}
use Rattle.mx_value.specs.declared.node.Node.{Node}
use Rattle.mx_value.specs.declared.node.Node.TheVariants.{Cell, Item}
use Rattle.mx_value.specs.declared.read.Read.TheVariants as read
use Rattle.mx_edit.specs.declared.key.Key.TheVariants as key
use Rattle.mx_runs.specs.Lists.{Has}
use Rattle.mx_runs.specs.Runs.{Event, Looked, Noted}
use Rattle.mx_runs.specs.Inputs.{is_input, is_value}
use Rattle.mx_runs.specs.Chains.{Reaches, Itself, Through}
use Rattle.mx_runs.proofs.Events.{asked_is_ask}
use Rattle.mx_meaning.specs.Laws.{BindsTo}
use Rattle.mx_formula_examples.proofs.Rules.{top}
use Rattle.mx_formula_examples.proofs.NodeRules.{means}
use Rattle.mx_formula_examples.proofs.Worked.{one_name}
use Rattle.mx_answers.specs.Held.{nodes_of}
use Rattle.mx_answers.specs.Records.{IsRecordOf, IsRightMemo}
use Rattle.mx_state.specs.Model.{model_of}
use Rattle.mx_state.specs.Evaluations.{AsBound}
use Rattle.mx_state.proofs.Evaluated.{value_is_answered}
use Rattle.mx_state_examples.specs.Texts.{main, choosing}
use Rattle.mx_state_examples.specs.Rows as row
use Rattle.mx_state_examples.proofs.Choosing.{a_run, c_run, choice_reads_one}
use Rattle.mx_state_examples.specs.Evaluations.{holding, literal_entry, choice_entry, of_choice, a_cell, c_cell, ChoiceIsEvaluated, ChoiceHasPrecedents}
use Rattle.mx_state_examples.proofs.Entries.{asks_nothing, asks_one, keys_last, asks_last, right_memo, self_bound, reads_told}

pub own : (name : Label) → is_input (model_of choosing) (row.main_cell name []) ≡ false
own name = ap (λ (b : Bool). b && is_value ((model_of choosing).look (key.Input (row.main_cell name [])))) (one_name (codes "Main"))

a_record : IsRecordOf (model_of choosing) (literal_entry a_cell main (codes "a") 1)
a_record = asks_nothing (model_of choosing) (literal_entry a_cell main (codes "a") 1) (row.literal_events (row.top (codes "Main")) main (codes "a") []) a_run.leads refl refl refl refl refl refl

-- the run of c() before its ask
abbrev pub before : List Event
before =
    Looked (key.Input c_cell) ∷ Looked (key.Cells main (codes "c")) ∷ Looked (key.Name main (codes "flag")) ∷ Noted (read.Ref (row.top (codes "Main")) (codes "flag"))
    ∷ Looked (key.Name main (codes "a")) ∷ Looked (key.Cells main (codes "a")) ∷ []

c_record : IsRecordOf (model_of choosing) choice_entry
c_record =
    asks_one (model_of choosing) choice_entry a_cell row.choice_events c_run.leads (keys_last (model_of choosing) a_cell (row.gives (row.whole 1)) (own (codes "a")) before) refl
    (asks_last (model_of choosing) a_cell (row.gives (row.whole 1)) (own (codes "a")) before) refl refl refl

abbrev cells_name : Node → Label
cells_name (Cell at name args) = name
cells_name (Item at args) = []

pub a_not_c : c_cell ≡ a_cell → ⊥
a_not_c e = let h : true ≡ false = ap (λ n. same_name (cells_name n) (codes "c")) e in cc

pub memo : IsRightMemo (model_of choosing) of_choice
memo =
    right_memo (model_of choosing) of_choice (a_record, (c_record, tt)) ((λ x h. h), ((λ x h. elim h [ inl e ↦ inl e | inr z ↦ absurd z ]), tt))
    (own (codes "a"), (own (codes "c"), tt)) ((λ h. elim h [ inl e ↦ a_not_c e | inr z ↦ z ]), ((λ h. h), tt)) (omega arith)

pub c_bound : BindsTo (model_of choosing) c_cell c_cell
unfolding c3 merge
c_bound = self_bound (codes "c") [] (top (codes "Main")) refl refl refl

pub reached : (x : Node) → Has (nodes_of of_choice) x → Reaches (model_of choosing) c_cell x
reached x h =
    elim h [
      | inl e ↦ subst (λ y. Reaches (model_of choosing) c_cell y) e (Through a_cell (asked_is_ask (model_of choosing) c_cell _ row.choice_events c_run.leads a_cell (inl refl)) Itself)
      | inr r ↦ elim r [ inl e ↦ subst (λ y. Reaches (model_of choosing) c_cell y) e Itself | inr z ↦ absurd z ]
    ]

pub choice_is_evaluated : ChoiceIsEvaluated
choice_is_evaluated = value_is_answered (holding choosing []) c_cell c_cell (row.gives (row.whole 1)) of_choice (AsBound c_bound) (means c_run) memo (inr (inl refl)) reached (omega arith)

pub choice_has_precedents : ChoiceHasPrecedents
choice_has_precedents = reads_told (holding choosing []) (holding choosing of_choice) c_cell c_cell (row.whole 1) 2 _ choice_is_evaluated (AsBound c_bound) choice_reads_one
