-- A display that replaces a parameter.
use Rattle.std.proofs.Common.{pos, [], ◌∷◌, refl, codes}
use Rattle.mx_c3.specs.Merge.{merge}
use Rattle.mx_c3.specs.Linearisation.{c3}
use Rattle.mx_value.specs.declared.namespace.Namespace.{Namespace}
use Rattle.mx_edit.specs.declared.key.Key.TheVariants as key
use Rattle.mx_runs.specs.Runs.{Gives, Looked}
use Rattle.mx_meaning.specs.Namespaces.{root, child}
use Rattle.mx_formula_examples.proofs.Rules.{Walks, top, inside, item_events, lit, local, in_overlay, name_sought, sum, plus, joined_end, joined_more}
use Rattle.mx_formula_examples.proofs.NodeRules.{RunsTo, means, within_run, displayed_item, display_refs, display_end, more_refs, no_refs}
use Rattle.mx_formula_examples.proofs.Worked.{ends, has_item, one_bound, small}
use Rattle.mx_model.specs.Keys.{key_result}
use Rattle.mx_state_examples.specs.Texts.{space_s, replacing}
use Rattle.mx_state_examples.specs.Rows as row

item_run : RunsTo (key_result replacing) (row.item (row.whole 4)) (Looked (key.Params space_s) ∷ []) (Gives row.replaced_reply)
unfolding c3 merge
item_run =
    displayed_item (row.whole 4 ∷ []) (top (codes "S")) (ends (codes "S")) refl refl (one_bound (codes "k") (pos 4)) (small (codes "S") (pos 4))
    (display_refs (more_refs (sum _ (local refl) (plus _ _ (joined_more _ _ lit refl joined_end))) no_refs) display_end) refl

pub reference_over_parameter : row.ReferenceOverParameter
reference_over_parameter = item_run.leads

abbrev replaced_space : Namespace
replaced_space = record { at = row.in_item (row.whole 4); source = space_s; overlay = (codes "k", row.whole 5) ∷ [] }

walk : Walks (key_result replacing) replaced_space (item_events (child (codes "S") root) (row.whole 4 ∷ []) row.replaced_reply)
unfolding c3 merge
walk = inside (top (codes "S")) refl (ends (codes "S")) refl refl (one_bound (codes "k") (pos 4)) (means item_run) refl

pub parameter_is_replaced : row.ParameterIsReplaced
unfolding c3 merge
parameter_is_replaced = (within_run [] (has_item (codes "S") (row.whole 4 ∷ []) []) walk refl refl refl (name_sought refl (in_overlay refl)) refl).leads
