-- A formula that a space takes over looks names up where it runs.
use Rattle.std.proofs.Common.{[], refl, codes}
use Rattle.mx_c3.specs.Merge.{merge}
use Rattle.mx_c3.specs.Linearisation.{c3}
use Rattle.mx_value.specs.declared.node.Node.TheVariants.{Cell}
use Rattle.mx_edit.specs.declared.key.KeyResult.TheVariants as found
use Rattle.mx_runs.specs.Runs.{Gives}
use Rattle.mx_formula_examples.proofs.Rules.{top, below, lit, in_source, name_sought, target_reference, cells_here, product, times, joined_end, joined_more, post, attribute_of, call, none, trail_end, call_of_cells}
use Rattle.mx_formula_examples.proofs.NodeRules.{RunsTo, means, static_run}
use Rattle.mx_formula_examples.proofs.Worked.{one_name, two_names}
use Rattle.mx_model.specs.Keys.{key_result}
use Rattle.mx_state.specs.Model.{model_of}
use Rattle.mx_state_examples.specs.Texts.{space_ab, space_sb, inheriting, inheriting_fixed}
use Rattle.mx_state_examples.specs.Rows as row
use Rattle.mx_state_examples.proofs.Rounds.{reads_are, two_reads}

pub ab_run : RunsTo (key_result inheriting) (Cell (row.two (codes "A") (codes "B")) (codes "v") []) (row.literal_events (row.two (codes "A") (codes "B")) space_ab (codes "v") []) (Gives (row.gives (row.whole 1)))
unfolding c3 merge
ab_run = static_run [] (two_names (codes "A") (codes "B")) (below (codes "B") (top (codes "A")) refl) refl refl refl refl lit refl

pub sb_run : RunsTo (key_result inheriting) (Cell (row.two (codes "S") (codes "B")) (codes "v") []) (row.literal_events (row.two (codes "S") (codes "B")) space_sb (codes "v") []) (Gives (row.gives (row.whole 2)))
unfolding c3 merge
sb_run = static_run [] (two_names (codes "S") (codes "B")) (below (codes "B") (top (codes "S")) refl) refl refl refl refl lit refl

pub a_run : RunsTo (key_result inheriting) (Cell (row.top (codes "A")) (codes "w") []) (row.w_events (codes "A") (codes "A") 1) (Gives (row.gives (row.whole 10)))
unfolding c3 merge
a_run =
    static_run [] (one_name (codes "A")) (top (codes "A")) refl refl refl refl
    (product _ (post (name_sought refl (in_source _ refl refl (target_reference (record { at = row.two (codes "A") (codes "B"); path = space_ab }) refl refl refl)))
    (attribute_of (below (codes "B") (top (codes "A")) refl) (in_source found.CellsHere refl refl cells_here)
    (call none (call_of_cells (below (codes "B") (top (codes "A")) refl) refl refl refl refl (means ab_run)) trail_end)))
    (times _ _ (joined_more _ _ lit refl joined_end))) refl

pub s_run : RunsTo (key_result inheriting) (Cell (row.top (codes "S")) (codes "w") []) (row.w_events (codes "S") (codes "S") 2) (Gives (row.gives (row.whole 20)))
unfolding c3 merge
s_run =
    static_run [] (one_name (codes "S")) (top (codes "S")) refl refl refl refl
    (product _ (post (name_sought refl (in_source _ refl refl (target_reference (record { at = row.two (codes "S") (codes "B"); path = space_sb }) refl refl refl)))
    (attribute_of (below (codes "B") (top (codes "S")) refl) (in_source found.CellsHere refl refl cells_here)
    (call none (call_of_cells (below (codes "B") (top (codes "S")) refl) refl refl refl refl (means sb_run)) trail_end)))
    (times _ _ (joined_more _ _ lit refl joined_end))) refl

pub formula_looks_where_it_runs : row.FormulaLooksWhereItRuns
formula_looks_where_it_runs = (a_run.leads, s_run.leads)

pub taken_over_reads : row.TakenOverReads
taken_over_reads =
    reads_are (model_of inheriting) (Cell (row.top (codes "S")) (codes "w") []) (row.w_events (codes "S") (codes "S") 2) (row.gives (row.whole 20)) _ s_run.leads
    (two_reads (row.top (codes "S")) (codes "b") (Cell (row.two (codes "S") (codes "B")) (codes "v") []))

pub fixed_ab_run : RunsTo (key_result inheriting_fixed) (Cell (row.two (codes "A") (codes "B")) (codes "v") []) (row.literal_events (row.two (codes "A") (codes "B")) space_ab (codes "v") []) (Gives (row.gives (row.whole 1)))
unfolding c3 merge
fixed_ab_run = static_run [] (two_names (codes "A") (codes "B")) (below (codes "B") (top (codes "A")) refl) refl refl refl refl lit refl

pub fixed_run : RunsTo (key_result inheriting_fixed) (Cell (row.top (codes "S")) (codes "w") []) (row.w_events (codes "S") (codes "A") 1) (Gives (row.gives (row.whole 10)))
unfolding c3 merge
fixed_run =
    static_run [] (one_name (codes "S")) (top (codes "S")) refl refl refl refl
    (product _ (post (name_sought refl (in_source _ refl refl (target_reference (record { at = row.two (codes "A") (codes "B"); path = space_ab }) refl refl refl)))
    (attribute_of (below (codes "B") (top (codes "A")) refl) (in_source found.CellsHere refl refl cells_here)
    (call none (call_of_cells (below (codes "B") (top (codes "A")) refl) refl refl refl refl (means fixed_ab_run)) trail_end)))
    (times _ _ (joined_more _ _ lit refl joined_end))) refl

pub fixed_target_stays : row.FixedTargetStays
fixed_target_stays = fixed_run.leads
