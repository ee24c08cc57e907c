-- A default in the place of an argument.
use Rattle.std.proofs.Common.{◌≡◌, ◌&&◌, Bool, pos, false, inl, inr, [], ◌∷◌, refl, ◌∙◌, ap, subst, arith, codes}
use Rattle.mx_c3.specs.Merge.{merge}
use Rattle.mx_c3.specs.Linearisation.{c3}
use Rattle.mx_value.specs.Normal.{normal_of}
use Rattle.mx_value.specs.declared.value.Value.{Value}
use Rattle.mx_value.specs.declared.node.Node.{Node}
use Rattle.mx_syntax.specs.Binding.{bound}
use Rattle.mx_edit.specs.declared.key.Key.TheVariants as key
use Rattle.mx_edit.specs.declared.key.KeyResult.TheVariants as found
use Rattle.mx_runs.specs.Lists.{Has}
use Rattle.mx_runs.specs.Runs.{Gives}
use Rattle.mx_runs.specs.Inputs.{is_input, is_value}
use Rattle.mx_runs.specs.Chains.{Reaches, Itself}
use Rattle.mx_formula_examples.proofs.Equations.{normal_int}
use Rattle.mx_formula_examples.proofs.Rules.{top, lit, local, in_source, name_sought, cells_here, sum, plus, joined_end, joined_more, post, call, none, more, trail_end, call_of_cells}
use Rattle.mx_formula_examples.proofs.NodeRules.{RunsTo, means, static_run}
use Rattle.mx_formula_examples.proofs.Worked.{one_name}
use Rattle.mx_formula_examples.proofs.FurtherWorked.{one_plain}
use Rattle.mx_answers.specs.Held.{nodes_of}
use Rattle.mx_answers.specs.Records.{IsRecordOf, IsRightMemo}
use Rattle.mx_model.specs.Keys.{key_result}
use Rattle.mx_state.specs.Model.{model_of}
use Rattle.mx_state.specs.Evaluations.{AsBound}
use Rattle.mx_state.proofs.Evaluated.{value_is_answered}
use Rattle.mx_state_examples.specs.Texts.{main, n_and_k, with_default}
use Rattle.mx_state_examples.specs.Rows as row
use Rattle.mx_state_examples.specs.Evaluations.{holding, f_of_default, DefaultIsEvaluated}
use Rattle.mx_state_examples.proofs.Entries.{asks_nothing, right_memo, bound_cells}

pub bound_by_default : bound n_and_k (row.whole 1 ∷ []) ≡ row.whole 1 ∷ row.whole 7 ∷ []
bound_by_default = ap (λ (v : Value). v ∷ normal_of (row.whole 7) ∷ []) (normal_int (pos 1)) ∙ ap (λ (v : Value). row.whole 1 ∷ v ∷ []) (normal_int (pos 7))

bound_both : bound n_and_k (row.whole 1 ∷ row.whole 7 ∷ []) ≡ row.whole 1 ∷ row.whole 7 ∷ []
bound_both = ap (λ (v : Value). v ∷ normal_of (row.whole 7) ∷ []) (normal_int (pos 1)) ∙ ap (λ (v : Value). row.whole 1 ∷ v ∷ []) (normal_int (pos 7))

f_run : RunsTo (key_result with_default) row.bound_f (row.literal_events (row.top (codes "Main")) main (codes "f") (row.whole 1 ∷ row.whole 7 ∷ [])) (Gives (row.gives (row.whole 8)))
unfolding c3 merge
f_run =
    static_run (row.whole 1 ∷ row.whole 7 ∷ []) (one_name (codes "Main")) (top (codes "Main")) refl refl refl bound_both
    (sum _ (local refl) (plus _ _ (joined_more _ _ (local refl) refl joined_end))) refl

c_run : RunsTo (key_result with_default) (row.main_cell (codes "c") []) (row.asking_events 8) (Gives (row.gives (row.whole 8)))
unfolding c3 merge
c_run =
    static_run [] (one_name (codes "Main")) (top (codes "Main")) refl refl refl refl
    (post (name_sought refl (in_source found.CellsHere refl refl cells_here)) (call (more lit none) (call_of_cells (top (codes "Main")) refl (one_plain (pos 1)) refl bound_by_default (means f_run)) trail_end)) refl

pub default_is_asked : row.DefaultIsAsked
default_is_asked = c_run.leads

pub default_is_bound : row.DefaultIsBound
unfolding c3 merge
default_is_bound = bound_cells (codes "f") (row.whole 1 ∷ []) (top (codes "Main")) refl refl bound_by_default

-- ---- evaluated

f_record : IsRecordOf (model_of with_default) f_of_default
f_record = asks_nothing (model_of with_default) f_of_default (row.literal_events (row.top (codes "Main")) main (codes "f") (row.whole 1 ∷ row.whole 7 ∷ [])) f_run.leads refl refl refl refl refl refl

own : is_input (model_of with_default) row.bound_f ≡ false
own = ap (λ (b : Bool). b && is_value ((model_of with_default).look (key.Input row.bound_f))) (one_name (codes "Main"))

memo : IsRightMemo (model_of with_default) (f_of_default ∷ [])
memo = right_memo (model_of with_default) (f_of_default ∷ []) (f_record, tt) ((λ x h. h), tt) (own, tt) ((λ h. h), tt) (omega arith)

reached : (x : Node) → Has (nodes_of (f_of_default ∷ [])) x → Reaches (model_of with_default) row.bound_f x
reached x h = elim h [ inl e ↦ subst (λ y. Reaches (model_of with_default) row.bound_f y) e Itself | inr z ↦ absurd z ]

pub default_is_evaluated : DefaultIsEvaluated
default_is_evaluated = value_is_answered (holding with_default []) row.short_f row.bound_f (row.gives (row.whole 8)) (f_of_default ∷ []) (AsBound default_is_bound) (means f_run) memo (inl refl) reached (omega arith)
