-- A choice reads no more than it takes.
use Rattle.std.proofs.Common.{◌≡◌, true, [], refl, ap, codes, rules}
use Rattle.mx_c3.specs.Merge.{merge}
use Rattle.mx_c3.specs.Linearisation.{c3}
use Rattle.mx_value.specs.declared.value.Value.{out-Value, the_lemmas as values}
use Rattle.mx_value.specs.declared.value.Value.TheVariants.{Flag}
use Rattle.mx_value.specs.declared.value.Segment.TheOpen.{Value-F}
use Rattle.mx_edit.specs.declared.key.KeyResult.TheVariants as found
use Rattle.mx_ops.specs.Kinds.{Content}
use Rattle.mx_ops.specs.Truth.{truth_in}
use Rattle.mx_runs.specs.Runs.{Gives}
use Rattle.mx_formula_examples.proofs.Rules.{top, lit, in_source, name_sought, plain_reference, cells_here, post, call, none, trail_end, call_of_cells}
use Rattle.mx_formula_examples.proofs.NodeRules.{RunsTo, means, static_run}
use Rattle.mx_formula_examples.proofs.Worked.{one_name}
use Rattle.mx_model.specs.Keys.{key_result}
use Rattle.mx_state.specs.Model.{model_of}
use Rattle.mx_state_examples.specs.Texts.{main, choosing}
use Rattle.mx_state_examples.specs.Rows as row
use Rattle.mx_state_examples.proofs.Halting.{arm_taken}
use Rattle.mx_state_examples.proofs.Rounds.{reads_are, two_reads}

out_true : out-Value (Flag true) ≡ Value-F.Flag true
out_true = search (values, rules)

pub a_run : RunsTo (key_result choosing) (row.main_cell (codes "a") []) (row.literal_events (row.top (codes "Main")) main (codes "a") []) (Gives (row.gives (row.whole 1)))
unfolding c3 merge
a_run = static_run [] (one_name (codes "Main")) (top (codes "Main")) refl refl refl refl lit refl

pub c_run : RunsTo (key_result choosing) (row.main_cell (codes "c") []) row.choice_events (Gives (row.gives (row.whole 1)))
unfolding c3 merge
c_run =
    static_run [] (one_name (codes "Main")) (top (codes "Main")) refl refl refl refl
    (arm_taken [] _ (name_sought refl (in_source _ refl refl plain_reference)) (ap (λ (content : Content). truth_in content) out_true)
    (post (name_sought refl (in_source found.CellsHere refl refl cells_here)) (call none (call_of_cells (top (codes "Main")) refl refl refl refl (means a_run)) trail_end))) refl

pub choice_takes_one : row.ChoiceTakesOne
choice_takes_one = c_run.leads

pub choice_reads_one : row.ChoiceReadsOne
choice_reads_one = reads_are (model_of choosing) (row.main_cell (codes "c") []) row.choice_events (row.gives (row.whole 1)) _ c_run.leads (two_reads (row.top (codes "Main")) (codes "flag") (row.main_cell (codes "a") []))
