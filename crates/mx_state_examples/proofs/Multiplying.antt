-- Items of a space with a parameter.
use Rattle.std.proofs.Common.{◌≡◌, ℕ, pos, Bool, true, false, if◌then◌else◌, is_none, Option, Some, None, inl, inr, List, [], ◌∷◌, refl, sym, ◌∙◌, ap, nat_le, codes, rules}
use Rattle.std.specs.Prelude.{◌+◌, sum as total}
use Rattle.mx_c3.specs.Merge.{merge}
use Rattle.mx_c3.specs.Linearisation.{c3}
use Rattle.mx_value.specs.Size.{size_of, size_of_segment}
use Rattle.mx_value.specs.Normal.{normal_of}
use Rattle.mx_value.specs.declared.value.Value.{Value, the_lemmas as values}
use Rattle.mx_value.specs.declared.value.Value.TheVariants as value
use Rattle.mx_value.specs.declared.value.Value.TheVariants.{Fix, Flag}
use Rattle.mx_value.specs.declared.value.Segment.{out-Segment}
use Rattle.mx_value.specs.declared.value.Segment.TheOpen.{Value-F}
use Rattle.mx_value.specs.declared.value.Segment.TheFolds.{para-roll-Value}
use Rattle.mx_value.specs.declared.value.Segment.TheVariants as segment
use Rattle.mx_value.specs.declared.namespace.Namespace.{Namespace}
use Rattle.mx_value.specs.declared.node.Node.{Node}
use Rattle.mx_value.specs.declared.node.Node.TheVariants.{Cell}
use Rattle.mx_value.specs.declared.fault.FaultKind.TheVariants.{ZeroDivision}
use Rattle.mx_value.proofs.Normals.{normal-Fix}
use Rattle.mx_syntax.specs.Binding.{bound}
use Rattle.mx_edit.specs.declared.key.Key.TheVariants as key
use Rattle.mx_runs.specs.Lists.{First, Done}
use Rattle.mx_runs.specs.Runs.{Run, Ends, Looks, Tests, Asks, Gives, Faults, WrongCount, Looked, Tested, Asked}
use Rattle.mx_runs.specs.Meaning.{Leads}
use Rattle.mx_runs.proofs.Levels.{ends_only, leads_append}
use Rattle.mx_runs.proofs.Runs.{comparable}
use Rattle.mx_meaning.specs.Namespaces.{Step, root, child, is_allowed}
use Rattle.mx_meaning.specs.Walks.{entered, walked}
use Rattle.mx_meaning.specs.Nodes.{cells_found, cells_run, input_or, body}
use Rattle.mx_meaning.proofs.Walking.{out_name, out_item}
use Rattle.mx_meaning.specs.Binding.{binding, cell_bound}
use Rattle.mx_meaning.specs.Laws.{BindsTo}
use Rattle.mx_formula_examples.proofs.Equations.{normal_int, size_space, size_name, size_item}
use Rattle.mx_formula_examples.proofs.Rules.{from, Walks, top, inside, item_events, local, in_overlay, name_sought, product, times, joined_end, joined_more}
use Rattle.mx_formula_examples.proofs.NodeRules.{RunsTo, means, within_run, bare_item}
use Rattle.mx_formula_examples.proofs.Worked.{ends, one_name, has_item, one_bound, small}
use Rattle.mx_edit.specs.declared.edit.Edit.{Edit}
use Rattle.mx_edit.specs.declared.edit.Edit.TheVariants as edit
use Rattle.mx_edit.specs.declared.refusal.EditRefusal.{EditRefusal}
use Rattle.mx_edit.specs.declared.refusal.EditRefusal.TheVariants as refusal
use Rattle.mx_model.specs.Records.{Path}
use Rattle.mx_model.specs.Inputs.{path_of, joined, name_in, cells_params}
use Rattle.mx_model.specs.Refused.{lacks_path, lacks_cells, do_not_bind, bad_value, in_use}
use Rattle.mx_model.specs.Keys.{key_result}
use Rattle.mx_state.specs.Model.{model_of}
use Rattle.mx_state.specs.Evaluations.{AsWritten}
use Rattle.mx_state_examples.specs.Texts.{param, space_s, multiplying}
use Rattle.mx_state_examples.specs.Rows as row
use Rattle.mx_state_examples.proofs.Halting.{product_halts, no_name, static_halts, walk_asks, walk_refuses}
use Rattle.mx_state_examples.proofs.Rounds.{reads_are}

-- what holds of the arguments 2 and True
pub flag_normal : normal_of (Flag true) ≡ Flag true
flag_normal = ap normal_of (sym (value.rolls-Flag true)) ∙ para-roll-Value _ _ _ _ _ _ (Value-F.Flag true)

flag_size : size_of (Flag true) ≡ 1
flag_size = search (values, rules)

pub flag_small : is_allowed (row.in_item (Flag true)) ≡ true
flag_small =
    ap (λ (size : ℕ). nat_le size 1_000_000)
    (size_space (row.in_item (Flag true))
    ∙ ap (λ (a : ℕ). 1 + total (a ∷ size_of_segment (segment.Item (Flag true ∷ [])) ∷ [])) (size_name (codes "S"))
    ∙ ap (λ (a : ℕ). 1 + total (0 ∷ a ∷ [])) (size_item (Flag true ∷ []) ∙ ap (λ (a : ℕ). total (a ∷ [])) flag_size))

module _ (v : Value) (normal : normal_of v ≡ v) (allowed : is_allowed (row.in_item v) ≡ true) where
  abbrev binds : List Value
  binds = v ∷ []

  pub item_run : RunsTo (key_result multiplying) (row.item v) (Looked (key.Params space_s) ∷ []) (Gives (row.item_reply (codes "x") v))
  unfolding c3 merge
  item_run = bare_item (v ∷ []) (top (codes "S")) (ends (codes "S")) refl refl (ap (λ (u : Value). u ∷ []) normal) allowed

  abbrev space : Namespace
  space = record { at = row.in_item v; source = space_s; overlay = (codes "x", v) ∷ [] }

  pub walk : Walks (key_result multiplying) space (item_events (child (codes "S") root) (v ∷ []) (row.item_reply (codes "x") v))
  unfolding c3 merge
  walk = inside (top (codes "S")) refl (ends (codes "S")) refl refl (ap (λ (u : Value). u ∷ []) normal) (means item_run) refl

-- S[2].c(1)
pub walk_two : Walks (key_result multiplying) (space (row.whole 2) (normal_int (pos 2)) (small (codes "S") (pos 2))) (item_events (child (codes "S") root) (row.whole 2 ∷ []) (row.item_reply (codes "x") (row.whole 2)))
walk_two = walk (row.whole 2) (normal_int (pos 2)) (small (codes "S") (pos 2))

pub two_run : RunsTo (key_result multiplying) (row.product_in (row.whole 2)) (Tested (key.Params space_s) ∷ Asked (row.item (row.whole 2)) (row.item_reply (codes "x") (row.whole 2)) ∷ Looked (key.Cells space_s (codes "c")) ∷ []) (Gives (row.gives (row.whole 2)))
unfolding c3 merge
two_run =
    within_run (row.whole 1 ∷ []) (has_item (codes "S") (row.whole 2 ∷ []) []) walk_two refl refl (one_bound (codes "t") (pos 1))
    (product _ (name_sought refl (in_overlay refl)) (times _ _ (joined_more _ _ (local refl) refl joined_end))) refl

-- S[True].c(1)
pub true_run : RunsTo (key_result multiplying) (row.product_in (Flag true)) (Tested (key.Params space_s) ∷ Asked (row.item (Flag true)) (row.item_reply (codes "x") (Flag true)) ∷ Looked (key.Cells space_s (codes "c")) ∷ []) (Gives (row.gives (row.whole 1)))
unfolding c3 merge
true_run =
    within_run (row.whole 1 ∷ []) (has_item (codes "S") (Flag true ∷ []) []) (walk (Flag true) flag_normal flag_small) refl refl (one_bound (codes "t") (pos 1))
    (product _ (name_sought refl (in_overlay refl)) (times _ _ (joined_more _ _ (local refl) refl joined_end))) refl

pub items_multiply : row.ItemsMultiply
items_multiply = (two_run.leads, true_run.leads)

pub item_is_read : row.ItemIsRead
item_is_read = reads_are (model_of multiplying) (row.product_in (row.whole 2)) (row.product_events (row.whole 2)) (row.gives (row.whole 2)) _ two_run.leads (First _ (λ h. h) Done)

pub no_parameter_outside : row.NoParameterOutside
unfolding c3 merge
no_parameter_outside =
    (static_halts (key_result multiplying) (child (codes "S") root) (codes "c") _ _ false (row.whole 1 ∷ []) [] _ _ (top (codes "S")) refl refl (one_bound (codes "t") (pos 1))
    (product_halts _ (no_name refl refl refl refl refl)) (one_name (codes "S")) refl).leads

-- ---- arguments that are bound otherwise, or not at all

two_bound : bound (param (codes "x") ∷ []) (Fix (pos 2000000000) ∷ []) ≡ row.whole 2 ∷ []
two_bound = ap (λ (v : Value). v ∷ []) (normal-Fix (pos 2000000000))

abbrev on_tests : (Node → Run) → Namespace → Run
on_tests go ns = Tests (key.Cells ns.source (codes "c")) (cell_bound ns (codes "c") (row.whole 1 ∷ []) go)

abbrev two_space : Namespace
two_space = record { at = row.in_item (row.whole 2); source = space_s; overlay = (codes "x", row.whole 2) ∷ [] }

decimal_leads : (go : Node → Run) → Leads (model_of multiplying) (binding (row.product_in (Fix (pos 2000000000))) go) (Tested (key.Params space_s) ∷ Asked (row.item (row.whole 2)) (row.item_reply (codes "x") (row.whole 2)) ∷ Tested (key.Cells space_s (codes "c")) ∷ []) (go (row.product_in (row.whole 2)))
unfolding c3 merge
decimal_leads go =
    leads_append (model_of multiplying) _ (Asks (row.item (row.whole 2)) (λ r. entered r.namespace (on_tests go))) (go (row.product_in (row.whole 2))) (Tested (key.Params space_s) ∷ []) (Asked (row.item (row.whole 2)) (row.item_reply (codes "x") (row.whole 2)) ∷ Tested (key.Cells space_s (codes "c")) ∷ [])
    (walk_asks (key_result multiplying) (child (codes "S") root) _ (Fix (pos 2000000000) ∷ []) (row.whole 2 ∷ []) [] (top (codes "S")) refl (ends (codes "S")) refl (on_tests go) refl two_bound)
    (refl, means (item_run (row.whole 2) (normal_int (pos 2)) (small (codes "S") (pos 2))), (refl, ap (λ (vs : List Value). go (Cell two_space.at (codes "c") vs)) (one_bound (codes "t") (pos 1))))

pub whole_decimal_is_bound : row.WholeDecimalIsBound
whole_decimal_is_bound = record { events = Tested (key.Params space_s) ∷ Asked (row.item (row.whole 2)) (row.item_reply (codes "x") (row.whole 2)) ∷ Tested (key.Cells space_s (codes "c")) ∷ []; leads = decimal_leads }

crowded_walk : (g : Namespace → Run) → Leads (model_of multiplying) (walked (segment.Name (codes "S") ∷ segment.Item (row.whole 1 ∷ row.whole 2 ∷ []) ∷ []) g) (Tested (key.Params space_s) ∷ []) (Ends WrongCount)
unfolding c3 merge
crowded_walk g = walk_refuses (key_result multiplying) (child (codes "S") root) _ (row.whole 1 ∷ row.whole 2 ∷ []) [] [] (top (codes "S")) refl (ends (codes "S")) refl g refl

-- it binds to none
crowded_unbound : (b : Node) → BindsTo (model_of multiplying) row.crowded b → ⊥
crowded_unbound b t =
    let told : Node → Run = λ m. Ends (Faults ZeroDivision m 0) in
    elim (comparable (model_of multiplying) (binding row.crowded told) (told b) (Ends WrongCount) t.events (Tested (key.Params space_s) ∷ []) (t.leads told) (crowded_walk (on_tests told))) [
      | inl a ↦ let e : Ends WrongCount ≡ told b = (ends_only (model_of multiplying) (Faults ZeroDivision b 0) (Ends WrongCount) a.more a.leads).1 in cc
      | inr a ↦ let e : told b ≡ Ends WrongCount = (ends_only (model_of multiplying) WrongCount (told b) a.more a.leads).1 in cc
    ]

crowded_run : row.Runs multiplying row.crowded (Tested (key.Params space_s) ∷ []) WrongCount
crowded_run =
    from (key_result multiplying) (body row.crowded) (cells_run row.crowded (segment.Name (codes "S") ∷ segment.Item (row.whole 1 ∷ row.whole 2 ∷ []) ∷ []) (codes "c") (row.whole 1 ∷ [])) (Ends WrongCount) (Tested (key.Params space_s) ∷ [])
    (ap (λ (b : Bool). if b then Looks (key.Input row.crowded) (input_or (cells_run row.crowded (segment.Name (codes "S") ∷ segment.Item (row.whole 1 ∷ row.whole 2 ∷ []) ∷ []) (codes "c") (row.whole 1 ∷ []))) else cells_run row.crowded (segment.Name (codes "S") ∷ segment.Item (row.whole 1 ∷ row.whole 2 ∷ []) ∷ []) (codes "c") (row.whole 1 ∷ [])) (has_item (codes "S") (row.whole 1 ∷ row.whole 2 ∷ []) []))
    (crowded_walk (λ ns. Looks (key.Cells ns.source (codes "c")) (cells_found row.crowded ns (row.whole 1 ∷ []))))

pub too_many_arguments : row.TooManyArguments
too_many_arguments = (AsWritten crowded_unbound, crowded_run)

-- ---- inputs

-- the address is no path
no_path : path_of (row.in_item (row.whole 2)) ≡ None
no_path =
    ap (λ (s : Step). joined (name_in s) (joined (name_in (out-Segment (segment.Item (row.whole 2 ∷ [])))) (Some []))) (out_name (codes "S"))
    ∙ ap (λ (s : Step). joined (Some (codes "S")) (joined (name_in s) (Some []))) (out_item (row.whole 2 ∷ []))

abbrev put : Edit
put = edit.SetInput (row.in_item (row.whole 2)) (codes "c") (row.whole 1 ∷ []) (row.whole 5)

-- the trouble of the input, by the path of its address
abbrev by_path : Option Path → Option EditRefusal
by_path p =
    if lacks_path multiplying p then Some refusal.NoSuchSpace
    else if lacks_cells multiplying p (codes "c") then Some refusal.NoSuchMember
    else if do_not_bind (cells_params multiplying p (codes "c")) (row.whole 1 ∷ []) then Some refusal.WrongCount
    else if is_none p then Some refusal.ItemAddress
    else if bad_value multiplying put then Some refusal.BadValue
    else in_use multiplying put

pub no_input_in_item : row.NoInputInItem
no_input_in_item = ap by_path no_path
