-- An input, under the bound form of its arguments.
use Rattle.std.proofs.Common.{◌≡◌, Bool, true, false, ◌&&◌, if◌then◌else◌, pos, inl, inr, Some, None, List, [], ◌∷◌, Ok, refl, ◌∙◌, ap, subst, arith, codes}
use Rattle.std.specs.Bool.{Decides}
use Rattle.std.specs.Map.{lookup}
use Rattle.mx_c3.specs.Merge.{merge}
use Rattle.mx_c3.specs.Linearisation.{c3}
use Rattle.mx_value.specs.Name.{same_name}
use Rattle.mx_value.specs.declared.label.Label.{Label}
use Rattle.mx_value.specs.declared.value.Value.{Value}
use Rattle.mx_value.specs.declared.node.Node.{Node}
use Rattle.mx_value.specs.declared.node.Node.TheVariants.{Cell, Item}
use Rattle.mx_value.specs.declared.read.Read.TheVariants as read
use Rattle.mx_value.proofs.NodeSames.{node_decides}
use Rattle.mx_edit.specs.declared.key.Key.TheVariants as key
use Rattle.mx_edit.specs.declared.key.KeyResult.TheVariants as found
use Rattle.mx_runs.specs.Lists.{Has, First, Done}
use Rattle.mx_runs.specs.Runs.{Gives, Looked}
use Rattle.mx_runs.specs.Inputs.{is_input, is_value}
use Rattle.mx_runs.specs.Chains.{Reaches, Itself}
use Rattle.mx_meaning.specs.Namespaces.{Step}
use Rattle.mx_meaning.specs.Laws.{BindsTo}
use Rattle.mx_meaning.proofs.Walking.{out_name}
use Rattle.mx_formula_examples.proofs.Rules.{top, lit, in_source, name_sought, cells_here, post, call, none, more, trail_end, call_of_cells}
use Rattle.mx_formula_examples.proofs.NodeRules.{RunsTo, means, static_run}
use Rattle.mx_formula_examples.proofs.CallRules.{input_run}
use Rattle.mx_formula_examples.proofs.Worked.{one_name}
use Rattle.mx_formula_examples.proofs.FurtherWorked.{one_plain}
use Rattle.mx_answers.specs.Held.{nodes_of}
use Rattle.mx_answers.specs.Records.{IsRecordOf, IsRightMemo}
use Rattle.mx_answers.proofs.Records.{input_reads_none}
use Rattle.mx_suspended.proofs.Steps.{answering_input}
use Rattle.mx_model.specs.Inputs.{name_in, joined, path_of}
use Rattle.mx_model.specs.Keys.{node_eq, value_of, key_result}
use Rattle.mx_state.specs.Model.{model_of}
use Rattle.mx_state.specs.Evaluations.{AsBound}
use Rattle.mx_state.proofs.Bound.{inputs_end}
use Rattle.mx_state.proofs.States.{evaluates_as}
use Rattle.mx_state.proofs.Evaluated.{value_is_answered}
use Rattle.mx_state_examples.specs.Texts.{main, with_input}
use Rattle.mx_state_examples.specs.Rows as row
use Rattle.mx_state_examples.specs.Evaluations.{limited, c_cell, asking_entry, InputIsEvaluated}
use Rattle.mx_state_examples.proofs.Defaults.{bound_by_default}
use Rattle.mx_state_examples.proofs.Entries.{asks_nothing, right_memo, bound_cells, self_bound}
use Rattle.mx_state_examples.proofs.Failing.{none_right}
use Rattle.mx_state_examples.proofs.Rounds.{reads_are}

-- ---- the inputs of the text

main_path : path_of (row.top (codes "Main")) ≡ Some main
main_path = ap (λ (s : Step). joined (name_in s) (Some [])) (out_name (codes "Main"))

inputs_are : with_input.inputs ≡ (row.bound_f, row.whole 9) ∷ []
unfolding c3 merge
inputs_are = rw main_path (ap (λ (args : List Value). (Cell (row.top (codes "Main")) (codes "f") args, row.whole 9) ∷ []) bound_by_default)

not_so : (b : Bool) {P : Type 0} → Decides b P → (P → ⊥) → b ≡ false
not_so true d n = absurd (n (d.0 refl))
not_so false d n = refl

abbrev cells_name : Node → Label
cells_name (Cell at name args) = name
cells_name (Item at args) = []

c_not_f : c_cell ≡ row.bound_f → ⊥
c_not_f e = let h : true ≡ false = ap (λ n. same_name (cells_name n) (codes "c")) e in cc

f_put : key_result with_input (key.Input row.bound_f) ≡ found.Value (row.whole 9)
f_put =
    ap (λ (es : List (Node × Value)). value_of (lookup (node_eq row.bound_f) es)) inputs_are
    ∙ ap (λ (b : Bool). value_of (if b then Some (row.whole 9) else None)) ((node_decides row.bound_f row.bound_f).1 refl)

c_missing : key_result with_input (key.Input c_cell) ≡ found.Missing
c_missing =
    ap (λ (es : List (Node × Value)). value_of (lookup (node_eq c_cell) es)) inputs_are
    ∙ ap (λ (b : Bool). value_of (if b then Some (row.whole 9) else None)) (not_so (node_eq c_cell row.bound_f) (node_decides c_cell row.bound_f) c_not_f)

f_is_input : is_input (model_of with_input) row.bound_f ≡ true
f_is_input = ap (λ (b : Bool). b && is_value (key_result with_input (key.Input row.bound_f))) (one_name (codes "Main")) ∙ ap is_value f_put

c_is_none : is_input (model_of with_input) c_cell ≡ false
c_is_none = ap (λ (b : Bool). b && is_value (key_result with_input (key.Input c_cell))) (one_name (codes "Main")) ∙ ap is_value c_missing

-- ---- runs

f_run : RunsTo (key_result with_input) row.bound_f (Looked (key.Input row.bound_f) ∷ []) (Gives (row.gives (row.whole 9)))
f_run = input_run (one_name (codes "Main")) f_put

pub input_is_bound : row.InputIsBound
input_is_bound = (f_run.leads, input_reads_none (model_of with_input) row.bound_f (inputs_end (key_result with_input)) f_is_input)

c_run : RunsTo (key_result with_input) c_cell (row.asking_events 9) (Gives (row.gives (row.whole 9)))
unfolding c3 merge
c_run =
    static_run [] (one_name (codes "Main")) (top (codes "Main")) c_missing refl refl refl
    (post (name_sought refl (in_source found.CellsHere refl refl cells_here)) (call (more lit none) (call_of_cells (top (codes "Main")) refl (one_plain (pos 1)) refl bound_by_default (means f_run)) trail_end)) refl

pub input_is_asked : row.InputIsAsked
input_is_asked = (c_run.leads, reads_are (model_of with_input) c_cell (row.asking_events 9) (row.gives (row.whole 9)) _ c_run.leads (First (read.Node row.bound_f) (λ h. h) Done))

-- ---- evaluated

f_bound : BindsTo (model_of with_input) row.short_f row.bound_f
unfolding c3 merge
f_bound = bound_cells (codes "f") (row.whole 1 ∷ []) (top (codes "Main")) refl refl bound_by_default

c_bound : BindsTo (model_of with_input) c_cell c_cell
unfolding c3 merge
c_bound = self_bound (codes "c") [] (top (codes "Main")) refl refl refl

nothing : IsRightMemo (model_of with_input) []
nothing = record { right = none_right (model_of with_input); records = λ e h. absurd h; order = tt }

c_record : IsRecordOf (model_of with_input) asking_entry
c_record =
    asks_nothing (model_of with_input) asking_entry (row.asking_events 9) c_run.leads
    (ap (λ (b : Bool). key.Input c_cell ∷ key.Cells main (codes "c") ∷ key.Name main (codes "f") ∷ key.Cells main (codes "f") ∷ (if b then key.Input row.bound_f ∷ [] else [])) f_is_input) refl
    (ap (λ (b : Bool). if b then [] else row.bound_f ∷ []) f_is_input) refl refl refl

memo : IsRightMemo (model_of with_input) (asking_entry ∷ [])
memo = right_memo (model_of with_input) (asking_entry ∷ []) (c_record, tt) ((λ x h. absurd h), tt) (c_is_none, tt) ((λ h. h), tt) (omega arith)

reached : (x : Node) → Has (nodes_of (asking_entry ∷ [])) x → Reaches (model_of with_input) c_cell x
reached x h = elim h [ inl e ↦ subst (λ y. Reaches (model_of with_input) c_cell y) e Itself | inr z ↦ absurd z ]

pub input_is_evaluated : InputIsEvaluated
input_is_evaluated = record {
  itself =
      evaluates_as (limited 1 with_input []) (limited 1 with_input []) row.short_f row.bound_f (Ok (row.whole 9)) 0 (AsBound f_bound)
      (answering_input (model_of with_input) (record { node = row.bound_f; held = []; limit = 1 }) (row.whole 9) (inputs_end (key_result with_input)) nothing f_is_input f_put)
      (record { records = nothing.records; order = nothing.order }) refl refl;
  asker = value_is_answered (limited 1 with_input []) c_cell c_cell (row.gives (row.whole 9)) (asking_entry ∷ []) (AsBound c_bound) (means c_run) memo (inl refl) reached (omega arith);
}
