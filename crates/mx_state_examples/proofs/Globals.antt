-- A reference of the model.
use Rattle.std.proofs.Common.{[], refl, codes}
use Rattle.mx_c3.specs.Merge.{merge}
use Rattle.mx_c3.specs.Linearisation.{c3}
use Rattle.mx_value.specs.declared.read.Read.TheVariants as read
use Rattle.mx_runs.specs.Lists.{First, Done}
use Rattle.mx_runs.specs.Runs.{Gives}
use Rattle.mx_formula_examples.proofs.Rules.{top}
use Rattle.mx_formula_examples.proofs.NodeRules.{RunsTo, static_run}
use Rattle.mx_formula_examples.proofs.CallRules.{global_reference}
use Rattle.mx_formula_examples.proofs.Worked.{one_name}
use Rattle.mx_model.specs.Keys.{key_result}
use Rattle.mx_state.specs.Model.{model_of}
use Rattle.mx_state_examples.specs.Texts.{with_global}
use Rattle.mx_state_examples.specs.Rows as row
use Rattle.mx_state_examples.proofs.Rounds.{reads_are}

c_run : RunsTo (key_result with_global) (row.main_cell (codes "c") []) row.global_events (Gives (row.gives (row.whole 5)))
unfolding c3 merge
c_run = static_run [] (one_name (codes "Main")) (top (codes "Main")) refl refl refl refl (global_reference refl refl refl refl) refl

pub model_reference_is_found : row.ModelReferenceIsFound
model_reference_is_found = (
  c_run.leads,
  reads_are (model_of with_global) (row.main_cell (codes "c") []) row.global_events (row.gives (row.whole 5)) _ c_run.leads (First (read.Global (codes "rate")) (λ h. h) Done),
)
