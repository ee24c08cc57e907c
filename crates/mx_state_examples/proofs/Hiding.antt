-- The parameter of an item hides a reference.
use Rattle.std.proofs.Common.{pos, [], ◌∷◌, refl, codes}
use Rattle.mx_c3.specs.Merge.{merge}
use Rattle.mx_c3.specs.Linearisation.{c3}
use Rattle.mx_value.specs.declared.namespace.Namespace.{Namespace}
use Rattle.mx_edit.specs.declared.key.Key.TheVariants as key
use Rattle.mx_runs.specs.Runs.{Gives, Looked}
use Rattle.mx_meaning.specs.Namespaces.{root, child}
use Rattle.mx_formula_examples.proofs.Rules.{Walks, top, inside, item_events, in_overlay, in_source, name_sought, plain_reference}
use Rattle.mx_formula_examples.proofs.NodeRules.{RunsTo, means, static_run, within_run, bare_item}
use Rattle.mx_formula_examples.proofs.Worked.{ends, one_name, has_item, one_bound, small}
use Rattle.mx_model.specs.Keys.{key_result}
use Rattle.mx_state_examples.specs.Texts.{space_s, hiding}
use Rattle.mx_state_examples.specs.Rows as row

item_run : RunsTo (key_result hiding) (row.item (row.whole 2)) (Looked (key.Params space_s) ∷ []) (Gives (row.item_reply (codes "x") (row.whole 2)))
unfolding c3 merge
item_run = bare_item (row.whole 2 ∷ []) (top (codes "S")) (ends (codes "S")) refl refl (one_bound (codes "x") (pos 2)) (small (codes "S") (pos 2))

abbrev inside_item : Namespace
inside_item = record { at = row.in_item (row.whole 2); source = space_s; overlay = (codes "x", row.whole 2) ∷ [] }

walk : Walks (key_result hiding) inside_item (item_events (child (codes "S") root) (row.whole 2 ∷ []) (row.item_reply (codes "x") (row.whole 2)))
unfolding c3 merge
walk = inside (top (codes "S")) refl (ends (codes "S")) refl refl (one_bound (codes "x") (pos 2)) (means item_run) refl

pub parameter_hides : row.ParameterHidesReference
unfolding c3 merge
parameter_hides = (within_run [] (has_item (codes "S") (row.whole 2 ∷ []) []) walk refl refl refl (name_sought refl (in_overlay refl)) refl).leads

pub reference_outside : row.ReferenceOutside
unfolding c3 merge
reference_outside = (static_run [] (one_name (codes "S")) (top (codes "S")) refl refl refl refl (name_sought refl (in_source _ refl refl plain_reference)) refl).leads
