-- The worked examples, by the rules.
use Rattle.std.proofs.Common.{◌≡◌, ℕ, ℤ, pos, List, [], ◌∷◌, refl, ◌∙◌, ap, Ok, Some, None, true, false, ◌&&◌, nat_le, rules}
use Rattle.std.specs.Prelude.{◌+◌, codes, sum as total}
use Rattle.mx_value.specs.Size.{size_of_segment}
use Rattle.mx_value.specs.declared.label.Label.{Label}
use Rattle.mx_value.specs.declared.value.Value.{Value, out-Value, the_lemmas as values}
use Rattle.mx_value.specs.declared.value.Value.TheVariants.{Int, Fix, Text, Space}
use Rattle.mx_value.specs.declared.value.Segment.{Segment, out-Segment}
use Rattle.mx_value.specs.declared.value.Segment.TheOpen.{Value-F}
use Rattle.mx_value.specs.declared.value.Segment.TheVariants as segment
use Rattle.mx_value.specs.declared.namespace.Namespace.{Namespace}
use Rattle.mx_value.specs.declared.node.Node.{Node}
use Rattle.mx_value.specs.declared.node.Node.TheVariants.{Item}
use Rattle.mx_value.specs.declared.read.Read.TheVariants as read
use Rattle.mx_syntax.specs.Binding.{bound}
use Rattle.mx_edit.specs.Table.{place_of}
use Rattle.mx_edit.specs.declared.key.Key.TheVariants as key
use Rattle.mx_edit.specs.declared.key.KeyResult.TheVariants as found
use Rattle.mx_edit.specs.declared.reply.Reply.{Reply}
use Rattle.mx_ops.specs.Kinds.{Content, bytes_in, bytes_of}
use Rattle.mx_ops.specs.Numbers.{whole_of}
use Rattle.mx_runs.specs.Runs.{Run, Gives, Looked, Tested, Asked, Noted, Event}
use Rattle.mx_runs.specs.Inputs.{is_name, is_static}
use Rattle.mx_runs.specs.Meaning.{Means}
use Rattle.mx_meaning.specs.Namespaces.{Step, Overlay, root, child, ends_with_name, is_allowed, with_name}
use Rattle.mx_meaning.specs.Calls.{entry, entry_of}
use Rattle.mx_meaning.specs.Nodes.{path_in, source_or_fault, item_given}
use Rattle.mx_meaning.specs.Laws.{model_of}
use Rattle.mx_formula_examples.specs.Rows as row
use Rattle.mx_meaning.proofs.Walking.{out_name, out_item}
use Rattle.mx_formula_examples.proofs.Equations.{out_space, normal_int, size_space, size_name, size_item, size_int}
use Rattle.mx_formula_examples.proofs.Rules.{Walks, top, below, inside, item_events, lit, local, in_overlay, in_source, name_sought, plain_reference, table_reference, target_reference, cells_here, sum, product, plus, times, joined_end, joined_more, post, attribute_of, call, index, none, more, trail_end, call_of_cells, index_of_table}
use Rattle.mx_formula_examples.proofs.NodeRules.{RunsTo, means, static_run, within_run, bare_item, displayed_item, display_base, display_refs, display_end, more_refs, no_refs, space_given}

-- ---- of addresses and arguments

pub ends : (name : Label) → ends_with_name (segment.Name name ∷ []) ≡ true
ends name = ap (λ (s : Step). is_name s) (out_name name)

pub one_name : (name : Label) → is_static (segment.Name name ∷ []) ≡ true
one_name name = ap (λ (s : Step). is_name s && true) (out_name name)

pub two_names : (name other : Label) → is_static (segment.Name name ∷ segment.Name other ∷ []) ≡ true
two_names name other = ap (λ (s : Step). is_name s && (is_name (out-Segment (segment.Name other)) && true)) (out_name name) ∙ ap (λ (s : Step). is_name s && true) (out_name other)

pub has_item : (name : Label) (args : List Value) (at : List Segment) → is_static (segment.Name name ∷ segment.Item args ∷ at) ≡ false
has_item name args at =
    ap (λ (s : Step). is_name s && (is_name (out-Segment (segment.Item args)) && is_static at)) (out_name name) ∙ ap (λ (s : Step). is_name s && is_static at) (out_item args)

pub one_bound : (name : Label) (n : ℤ) → bound (record { name = name; default = None } ∷ []) (Int n ∷ []) ≡ Int n ∷ []
one_bound name n = ap (λ (v : Value). v ∷ []) (normal_int n)

pub small : (name : Label) (n : ℤ) → is_allowed (segment.Name name ∷ segment.Item (Int n ∷ []) ∷ []) ≡ true
small name n =
    ap (λ (size : ℕ). nat_le size 1_000_000)
    (size_space (segment.Name name ∷ segment.Item (Int n ∷ []) ∷ [])
    ∙ ap (λ (a : ℕ). 1 + total (a ∷ size_of_segment (segment.Item (Int n ∷ [])) ∷ [])) (size_name name)
    ∙ ap (λ (a : ℕ). 1 + total (0 ∷ a ∷ [])) (size_item (Int n ∷ []) ∙ ap (λ (a : ℕ). total (a ∷ [])) (size_int n)))

-- ---- a parameter hides a reference

pub hiding_item : RunsTo row.hiding (Item (row.named (codes "S") ∷ []) (Int (pos 2) ∷ [])) (Looked (key.Params row.space_s) ∷ []) (Gives row.item_reply)
hiding_item = bare_item (Int (pos 2) ∷ []) (top (codes "S")) (ends (codes "S")) refl refl (one_bound row.x (pos 2)) (small (codes "S") (pos 2))

abbrev hiding_space : Namespace
hiding_space = record { at = row.s_item 2; source = row.space_s; overlay = (row.x, Int (pos 2)) ∷ [] }

hiding_walk : Walks row.hiding hiding_space (item_events (child (codes "S") root) (Int (pos 2) ∷ []) row.item_reply)
hiding_walk = inside (top (codes "S")) refl (ends (codes "S")) refl refl (one_bound row.x (pos 2)) (means hiding_item) refl

hiding_run : RunsTo row.hiding (row.cell (row.s_item 2) row.c) (Tested (key.Params row.space_s) ∷ Asked (Item (row.named (codes "S") ∷ []) (Int (pos 2) ∷ [])) row.item_reply ∷ Looked (key.Cells row.space_s row.c) ∷ []) (Gives (row.whole 2))
hiding_run = within_run [] (has_item (codes "S") (Int (pos 2) ∷ []) []) hiding_walk refl refl refl (name_sought refl (in_overlay refl)) refl

pub parameter_hides : row.ParameterHides
parameter_hides = means hiding_run

pub parameter_is_no_key : row.ParameterIsNoKey
parameter_is_no_key = hiding_run.leads

pub reference_alone : row.ReferenceAlone
reference_alone = means (static_run [] (one_name (codes "S")) (top (codes "S")) refl refl refl refl (name_sought refl (in_source _ refl refl plain_reference)) refl)

-- ---- targets

abbrev leading_space : Namespace
leading_space = record { at = row.s_item 3; source = row.space_s; overlay = (row.k, Int (pos 3)) ∷ [] }

leading_item : RunsTo row.leading (Item (row.named (codes "S") ∷ []) (Int (pos 3) ∷ [])) (Looked (key.Params row.space_s) ∷ []) (Gives (space_given (child (codes "S") root) (Int (pos 3) ∷ []) leading_space.overlay row.space_s))
leading_item = bare_item (Int (pos 3) ∷ []) (top (codes "S")) (ends (codes "S")) refl refl (one_bound row.k (pos 3)) (small (codes "S") (pos 3))

leading_walk : Walks row.leading leading_space (item_events (child (codes "S") root) (Int (pos 3) ∷ []) (space_given (child (codes "S") root) (Int (pos 3) ∷ []) leading_space.overlay row.space_s))
leading_walk = inside (top (codes "S")) refl (ends (codes "S")) refl refl (one_bound row.k (pos 3)) (means leading_item) refl

-- S[3].T.v()
in_item : Means (model_of row.leading) (row.cell (child (codes "T") leading_space).at row.v) (Gives (row.whole 3))
in_item = means (within_run [] (has_item (codes "S") (Int (pos 3) ∷ []) (segment.Name (codes "T") ∷ [])) (below (codes "T") leading_walk refl) refl refl refl (name_sought refl (in_overlay refl)) refl)

pub relative_target : row.RelativeTarget
relative_target =
    means (within_run [] (has_item (codes "S") (Int (pos 3) ∷ []) []) leading_walk refl refl refl
    (post (name_sought refl (in_source _ refl refl (target_reference (record { at = (child (codes "T") leading_space).at; path = row.space_st }) refl refl refl)))
    (attribute_of (below (codes "T") leading_walk refl) (in_source found.CellsHere refl refl cells_here)
    (call none (call_of_cells (below (codes "T") leading_walk refl) refl refl refl refl in_item) trail_end))) refl)

-- S.T.v()
not_in_item : Means (model_of row.leading) (row.cell (child (codes "T") (child (codes "S") root)).at row.v) (Gives (row.whole 7))
not_in_item = means (static_run [] (two_names (codes "S") (codes "T")) (below (codes "T") (top (codes "S")) refl) refl refl refl refl (name_sought refl (in_source _ refl refl plain_reference)) refl)

pub fixed_target : row.FixedTarget
fixed_target =
    means (within_run [] (has_item (codes "S") (Int (pos 3) ∷ []) []) leading_walk refl refl refl
    (post (name_sought refl (in_source _ refl refl (target_reference (record { at = (child (codes "T") (child (codes "S") root)).at; path = row.space_st }) refl refl refl)))
    (attribute_of (below (codes "T") (top (codes "S")) refl) (in_source found.CellsHere refl refl cells_here)
    (call none (call_of_cells (below (codes "T") (top (codes "S")) refl) refl refl refl refl not_in_item) trail_end))) refl)

-- ---- formulas that are taken over

pub formula_at_home : row.FormulaAtHome
formula_at_home = means (static_run [] (one_name (codes "A")) (top (codes "A")) refl refl refl refl (name_sought refl (in_source _ refl refl plain_reference)) refl)

pub formula_taken_over : row.FormulaTakenOver
formula_taken_over = means (static_run [] (one_name (codes "B")) (top (codes "B")) refl refl refl refl (name_sought refl (in_source _ refl refl plain_reference)) refl)

-- ---- tables

pub out_text : (bytes : List ℕ) → out-Value (Text bytes) ≡ Value-F.Text bytes
out_text bytes = search (values, rules)

rate_at_30 : entry_of row.rates (Int (pos 30) ∷ Text row.rate ∷ []) ≡ Ok (Fix (pos 2500000))
unfolding place_of
rate_at_30 =
    ap (λ (v : Value). entry row.rates (whole_of v) (bytes_of (Text row.rate))) (normal_int (pos 30)) ∙ ap (λ (content : Content). entry row.rates (Some (pos 30)) (bytes_in content)) (out_text row.rate)

table_run : RunsTo row.tabled row.table_node row.table_events (Gives (record { value = Fix (pos 2500000); namespace = None }))
table_run =
    static_run [] (one_name (codes "Main")) (top (codes "Main")) refl refl refl refl
    (post (name_sought refl (in_source _ refl refl table_reference)) (index (more lit (more lit none)) (index_of_table refl rate_at_30) trail_end)) refl

pub table_entry : row.TableEntry
table_entry = table_run.leads

-- ---- a base and references

abbrev basing_space : Namespace
basing_space = record { at = row.s_item 4; source = row.space_p; overlay = (row.k, Int (pos 4)) ∷ (row.z, Int (pos 5)) ∷ [] }

abbrev basing_reply : Reply
basing_reply = record { value = Space (row.s_item 4); namespace = Some basing_space }

-- the base P gives its own path
pub base_source : (n : Node) (over : Overlay) → source_or_fault (path_in (out-Value (Space (segment.Name (codes "P") ∷ [])))) n (item_given (child (codes "S") root) (Int (pos 4) ∷ []) over) ≡ item_given (child (codes "S") root) (Int (pos 4) ∷ []) over row.space_p
base_source n over =
    let go : List Label → Run = item_given (child (codes "S") root) (Int (pos 4) ∷ []) over in
    ap (λ (content : Content). source_or_fault (path_in content) n go) (out_space (segment.Name (codes "P") ∷ [])) ∙ ap (λ (s : Step). source_or_fault (with_name s (Some [])) n go) (out_name (codes "P"))

abbrev basing_events : List Event
basing_events = Looked (key.Params row.space_s) ∷ Looked (key.Name row.space_s row.p) ∷ Noted (read.Ref (row.named (codes "S") ∷ []) row.p) ∷ Looked (key.Exists row.space_p) ∷ []

basing_item : RunsTo row.basing (Item (row.named (codes "S") ∷ []) (Int (pos 4) ∷ [])) basing_events (Gives basing_reply)
basing_item =
    displayed_item (Int (pos 4) ∷ []) (top (codes "S")) (ends (codes "S")) refl refl (one_bound row.k (pos 4)) (small (codes "S") (pos 4))
    (display_base (name_sought refl (in_source _ refl refl (target_reference (record { at = segment.Name (codes "P") ∷ []; path = row.space_p }) refl refl refl)))
    (display_refs (more_refs (sum _ (local refl) (plus _ _ (joined_more _ _ lit refl joined_end))) no_refs) display_end))
    (base_source _ _)

basing_walk : Walks row.basing basing_space (item_events (child (codes "S") root) (Int (pos 4) ∷ []) basing_reply)
basing_walk = inside (top (codes "S")) refl (ends (codes "S")) refl refl (one_bound row.k (pos 4)) (means basing_item) refl

pub base_gives_cells : row.BaseGivesCells
base_gives_cells =
    means (within_run [] (has_item (codes "S") (Int (pos 4) ∷ []) []) basing_walk refl refl refl (product _ (name_sought refl (in_overlay refl)) (times _ _ (joined_more _ _ lit refl joined_end))) refl)

pub references_are_added : row.ReferencesAreAdded
references_are_added = means (within_run [] (has_item (codes "S") (Int (pos 4) ∷ []) []) basing_walk refl refl refl (name_sought refl (in_overlay refl)) refl)
