-- Names are not sought in the space above.
use Rattle.std.proofs.Common.{false, [], ◌∷◌, refl, codes}
use Rattle.mx_c3.specs.Merge.{merge}
use Rattle.mx_c3.specs.Linearisation.{c3}
use Rattle.mx_value.specs.declared.node.Node.TheVariants.{Cell}
use Rattle.mx_runs.specs.Runs.{Gives}
use Rattle.mx_meaning.specs.Namespaces.{root, child}
use Rattle.mx_formula_examples.proofs.Rules.{top, below, lit, in_source, name_sought, post, call, none, trail_end, call_of_cells}
use Rattle.mx_formula_examples.proofs.NodeRules.{RunsTo, means, static_run}
use Rattle.mx_formula_examples.proofs.Worked.{one_name, two_names}
use Rattle.mx_model.specs.Keys.{key_result}
use Rattle.mx_state_examples.specs.Texts.{space_a, nested, referring}
use Rattle.mx_state_examples.specs.Rows as row
use Rattle.mx_state_examples.proofs.Halting.{no_name, first_halts, static_halts, cells_target, no_cells}

pub no_name_above : row.NoNameAbove
unfolding c3 merge
no_name_above =
    (static_halts (key_result nested) (child (codes "B") (child (codes "A") root)) (codes "v") _ _ false [] [] _ _ (below (codes "B") (top (codes "A")) refl) refl refl refl
    (first_halts _ (no_name refl refl refl refl refl)) (two_names (codes "A") (codes "B")) refl).leads

k_run : RunsTo (key_result referring) (Cell (row.top (codes "A")) (codes "k") []) (row.literal_events (row.top (codes "A")) space_a (codes "k") []) (Gives (row.gives (row.whole 2)))
unfolding c3 merge
k_run = static_run [] (one_name (codes "A")) (top (codes "A")) refl refl refl refl lit refl

pub reference_to_cells : row.ReferenceToCells
unfolding c3 merge
reference_to_cells =
    (static_run [] (two_names (codes "A") (codes "B")) (below (codes "B") (top (codes "A")) refl) refl refl refl refl
    (post (name_sought refl (in_source _ refl refl (cells_target (record { at = row.two (codes "A") (codes "k"); path = codes "A" ∷ codes "k" ∷ [] }) (codes "k") refl refl refl refl refl)))
    (call none (call_of_cells (top (codes "A")) refl refl refl refl (means k_run)) trail_end)) refl).leads

pub no_space_no_node : row.NoSpaceNoNode
unfolding c3 merge
no_space_no_node = no_cells (codes "v") [] (below (codes "B") (top (codes "A")) refl) refl (two_names (codes "A") (codes "B")) refl
