-- Items with a base and references.
use Rattle.std.proofs.Common.{◌≡◌, pos, false, List, [], ◌∷◌, Some, refl, ◌∙◌, ap, subst, codes}
use Rattle.mx_c3.specs.Merge.{merge}
use Rattle.mx_c3.specs.Linearisation.{c3}
use Rattle.mx_value.specs.declared.label.Label.{Label}
use Rattle.mx_value.specs.declared.value.Value.{out-Value}
use Rattle.mx_value.specs.declared.value.Value.TheVariants.{Space}
use Rattle.mx_value.specs.declared.namespace.Namespace.{Namespace}
use Rattle.mx_value.specs.declared.fault.FaultKind.TheVariants.{BadItem}
use Rattle.mx_edit.specs.declared.key.Key.TheVariants as key
use Rattle.mx_ops.specs.Kinds.{Content}
use Rattle.mx_runs.specs.Runs.{Run, Ends, Looks, Gives, Faults, Looked}
use Rattle.mx_runs.specs.Meaning.{Leads}
use Rattle.mx_runs.specs.Chains.{DoesAsk}
use Rattle.mx_runs.proofs.Meanings.{finished, passed_on}
use Rattle.mx_meaning.specs.Namespaces.{Step, Overlay, overlaid_by, root, child, with_name}
use Rattle.mx_meaning.specs.Nodes.{path_in, source_or_fault, item_given, item_returned, cells_found, body}
use Rattle.mx_meaning.specs.Statements.{Display}
use Rattle.mx_meaning.proofs.Walking.{out_name}
use Rattle.mx_formula_examples.proofs.Equations.{out_space, out_int}
use Rattle.mx_formula_examples.proofs.Rules.{Walks, top, inside, item_events, lit, local, in_overlay, in_source, name_sought, target_reference, sum, product, plus, times, joined_end, joined_more}
use Rattle.mx_formula_examples.proofs.NodeRules.{RunsTo, means, within_run, displayed_item, display_base, display_refs, display_end, more_refs, no_refs}
use Rattle.mx_formula_examples.proofs.Worked.{ends, has_item, one_bound, small}
use Rattle.mx_model.specs.Keys.{key_result}
use Rattle.mx_state.specs.Model.{model_of}
use Rattle.mx_state_examples.specs.Texts.{space_p, space_s, basing, basing_alone, basing_wrong}
use Rattle.mx_state_examples.specs.Rows as row
use Rattle.mx_state_examples.proofs.Halting.{ComesTo, does_ask, no_name, within_halts, base_halts, display_halts, cells_ask_item}

-- the base P gives its own path
base_source : (over : Overlay) → source_or_fault (path_in (out-Value (Space (row.top (codes "P"))))) (row.item (row.whole 4)) (item_given (child (codes "S") root) (row.whole 4 ∷ []) over) ≡ item_given (child (codes "S") root) (row.whole 4 ∷ []) over space_p
base_source over =
    let go : List Label → Run = item_given (child (codes "S") root) (row.whole 4 ∷ []) over in
    ap (λ (content : Content). source_or_fault (path_in content) (row.item (row.whole 4)) go) (out_space (row.top (codes "P"))) ∙ ap (λ (s : Step). source_or_fault (with_name s (Some [])) (row.item (row.whole 4)) go) (out_name (codes "P"))

-- ---- with a reference

item_run : RunsTo (key_result basing) (row.item (row.whole 4)) row.based_events (Gives row.based_reply)
unfolding c3 merge
item_run =
    displayed_item (row.whole 4 ∷ []) (top (codes "S")) (ends (codes "S")) refl refl (one_bound (codes "k") (pos 4)) (small (codes "S") (pos 4))
    (display_base (name_sought refl (in_source _ refl refl (target_reference (record { at = row.top (codes "P"); path = space_p }) refl refl refl)))
    (display_refs (more_refs (sum _ (local refl) (plus _ _ (joined_more _ _ lit refl joined_end))) no_refs) display_end))
    (base_source _)

pub base_gives_source : row.BaseGivesSource
base_gives_source = item_run.leads

abbrev based_space : Namespace
based_space = record { at = row.in_item (row.whole 4); source = space_p; overlay = (codes "k", row.whole 4) ∷ (codes "z", row.whole 5) ∷ [] }

walk : Walks (key_result basing) based_space (item_events (child (codes "S") root) (row.whole 4 ∷ []) row.based_reply)
unfolding c3 merge
walk = inside (top (codes "S")) refl (ends (codes "S")) refl refl (one_bound (codes "k") (pos 4)) (means item_run) refl

pub base_gives_cells : row.BaseGivesCells
unfolding c3 merge
base_gives_cells = (within_run [] (has_item (codes "S") (row.whole 4 ∷ []) []) walk refl refl refl (product _ (name_sought refl (in_overlay refl)) (times _ _ (joined_more _ _ lit refl joined_end))) refl).leads

pub added_reference : row.AddedReference
unfolding c3 merge
added_reference = (within_run [] (has_item (codes "S") (row.whole 4 ∷ []) []) walk refl refl refl (name_sought refl (in_overlay refl)) refl).leads

-- ---- without one

bare_run : RunsTo (key_result basing_alone) (row.item (row.whole 4)) row.based_events (Gives row.bare_reply)
unfolding c3 merge
bare_run =
    displayed_item (row.whole 4 ∷ []) (top (codes "S")) (ends (codes "S")) refl refl (one_bound (codes "k") (pos 4)) (small (codes "S") (pos 4))
    (display_base (name_sought refl (in_source _ refl refl (target_reference (record { at = row.top (codes "P"); path = space_p }) refl refl refl))) display_end)
    (base_source _)

abbrev bare_space : Namespace
bare_space = record { at = row.in_item (row.whole 4); source = space_p; overlay = (codes "k", row.whole 4) ∷ [] }

bare_walk : Walks (key_result basing_alone) bare_space (item_events (child (codes "S") root) (row.whole 4 ∷ []) row.bare_reply)
unfolding c3 merge
bare_walk = inside (top (codes "S")) refl (ends (codes "S")) refl refl (one_bound (codes "k") (pos 4)) (means bare_run) refl

pub no_added_reference : row.NoAddedReference
unfolding c3 merge
no_added_reference =
    (within_halts (key_result basing_alone) bare_space (codes "w") _ _ false [] _ _ _ bare_walk refl refl refl (no_name refl refl refl refl refl) (has_item (codes "S") (row.whole 4 ∷ []) [])).leads

-- ---- a base that is no space

no_source : (over : Overlay) → item_returned (row.item (row.whole 4)) (child (codes "S") root) (row.whole 4 ∷ []) over (Display [] (Some (row.whole 3))) ≡ Ends (Faults BadItem (row.item (row.whole 4)) 1)
no_source over = ap (λ (content : Content). source_or_fault (path_in content) (row.item (row.whole 4)) (item_given (child (codes "S") root) (row.whole 4 ∷ []) (overlaid_by (overlaid_by [] over) []))) (out_int (pos 3))

abbrev wrong_stop : Run
wrong_stop = item_returned (row.item (row.whole 4)) (child (codes "S") root) (row.whole 4 ∷ []) ((codes "k", row.whole 4) ∷ []) (Display [] (Some (row.whole 3)))

wrong_halts : ComesTo (key_result basing_wrong) (row.item (row.whole 4)) (Looked (key.Params space_s) ∷ []) wrong_stop
unfolding c3 merge
wrong_halts = display_halts (row.whole 4 ∷ []) (top (codes "S")) (ends (codes "S")) refl refl (one_bound (codes "k") (pos 4)) (small (codes "S") (pos 4)) (base_halts lit)

wrong_item : row.Runs basing_wrong (row.item (row.whole 4)) (Looked (key.Params space_s) ∷ []) (Faults BadItem (row.item (row.whole 4)) 1)
wrong_item = subst (λ r. Leads (model_of basing_wrong) (body (row.item (row.whole 4))) (Looked (key.Params space_s) ∷ []) r) (no_source ((codes "k", row.whole 4) ∷ [])) wrong_halts.leads

asks_wrong : DoesAsk (model_of basing_wrong) (row.based_cell (codes "v")) (row.item (row.whole 4))
unfolding c3 merge
asks_wrong =
    does_ask
    (cells_ask_item (key_result basing_wrong) (child (codes "S") root) _ (row.whole 4 ∷ []) (row.whole 4 ∷ []) [] (top (codes "S")) refl (ends (codes "S")) refl (λ m. Looks (key.Cells m.source (codes "v")) (cells_found (row.based_cell (codes "v")) m []))
    refl (one_bound (codes "k") (pos 4)) (codes "v") [] (has_item (codes "S") (row.whole 4 ∷ []) []) refl)

pub wrong_base : row.WrongBase
wrong_base = (
  wrong_item,
  passed_on (model_of basing_wrong) (row.based_cell (codes "v")) (row.item (row.whole 4)) asks_wrong.events asks_wrong.go (Faults BadItem (row.item (row.whole 4)) 1) tt asks_wrong.leads
      (finished (model_of basing_wrong) (row.item (row.whole 4)) (Looked (key.Params space_s) ∷ []) (Faults BadItem (row.item (row.whole 4)) 1) tt wrong_item),
)
