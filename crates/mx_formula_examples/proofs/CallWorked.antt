-- The worked examples of calls, names, generators and faults, by the rules.
use Rattle.std.proofs.Common.{◌≡◌, ℕ, zero, suc, ◌+◌, ℤ, pos, ◌+ℤ◌, ◌*ℤ◌, List, [], ◌∷◌, ◌++◌, None, Some, Option, Ok, Err, refl, ◌∙◌, ap, Bool, true, false, ◌&&◌, nat_le, if◌then◌else◌, map, rules, arith}
use Rattle.std.specs.Prelude.{codes, sum as total}
use Rattle.std.specs.List.{list_all}
use Rattle.mx_value.specs.Plain.{is_plain}
use Rattle.mx_ops.specs.Ranges.{numbers_from}
use Rattle.mx_value.specs.Size.{size_of}
use Rattle.mx_value.specs.Nesting.{nesting_of}
use Rattle.mx_value.specs.Normal.{normal_of}
use Rattle.mx_value.specs.declared.value.Value.{Value, the_lemmas as values}
use Rattle.mx_value.specs.declared.value.Value.TheVariants as value
use Rattle.mx_value.specs.declared.value.Value.TheVariants.{Int, Flag, Nothing, Text, Tup, Space}
use Rattle.mx_value.specs.declared.value.CellsAt.{CellsAt}
use Rattle.mx_value.specs.declared.namespace.Namespace.{Namespace}
use Rattle.mx_value.specs.declared.node.Node.TheVariants.{Cell, Item}
use Rattle.mx_value.specs.declared.fault.FaultKind.TheVariants.{TypeMismatch, TooLarge}
use Rattle.mx_syntax.specs.declared.expr.Expr.TheVariants as expr
use Rattle.mx_syntax.specs.declared.expr.SumOp.TheVariants as sums
use Rattle.mx_syntax.specs.Binding.{bound}
use Rattle.mx_edit.specs.declared.key.Key.TheVariants as key
use Rattle.mx_edit.specs.declared.key.KeyResult.TheVariants as found
use Rattle.mx_syntax.specs.declared.op.Op.TheVariants as op
use Rattle.mx_ops.specs.Kinds.{Content, bytes_in, bytes_of, items_in, items_of}
use Rattle.mx_ops.specs.Rows.{or_else, of_part, of_parts}
use Rattle.mx_ops.specs.Answers.{made}
use Rattle.mx_ops.specs.Builtins.{sum_from}
use Rattle.mx_ops.specs.Table.{gives}
use Rattle.mx_runs.specs.Runs.{Gives, Looked}
use Rattle.mx_runs.specs.Meaning.{Means}
use Rattle.mx_meaning.specs.Namespaces.{root, child}
use Rattle.mx_meaning.specs.Environments.{Env, within}
use Rattle.mx_meaning.specs.Laws.{model_of}
use Rattle.mx_formula_examples.specs.Rows as row
use Rattle.mx_formula_examples.specs.FurtherRows as further
use Rattle.mx_formula_examples.specs.LoopRows as loop
use Rattle.mx_formula_examples.specs.CallRows as calls
use Rattle.mx_ops.proofs.Sizes.{joined_sum}
use Rattle.mx_formula_examples.proofs.Equations.{out_int, out_tuple, plain_int, normal_int, size_int, size_tuple}
use Rattle.mx_formula_examples.proofs.Rules.{Comes, Walks, top, inside, item_events, lit, local, in_overlay, in_source, name_sought, plain_reference, cells_here, sum as summing, plus, joined_more, joined_end, post, call, none, more, trail_end, call_of_cells}
use Rattle.mx_formula_examples.proofs.NodeRules.{RunsTo, means, static_run, within_run, line_env, displayed_item, display_refs, display_end, more_refs, no_refs}
use Rattle.mx_formula_examples.proofs.FormRules.{compare, chain_more, chain_false, chain_end, function_named, call_of_function, post_turns, static_fault}
use Rattle.mx_formula_examples.proofs.LoopRules.{ints_allowed, gen_more, gen_end, call_over}
use Rattle.mx_formula_examples.proofs.OperatorRules.{truth_int, truth_flag, less_int}
use Rattle.mx_formula_examples.proofs.CallRules.{function_faults, global_reference, input_run, call_faults, number_called, wrong_count, not_plain, sum_fault}
use Rattle.mx_formula_examples.proofs.GeneratorRules.{tested_in, tested_out, tested_end, call_over_tested, fails_here, holds_here, all_over}
use Rattle.mx_formula_examples.proofs.Worked.{ends, one_name, has_item, one_bound, small}
use Rattle.mx_formula_examples.proofs.FurtherWorked.{one_plain}
use Rattle.mx_formula_examples.proofs.LoopWorked.{range_3, range_4}

-- ---- a default

bound_by_default : bound calls.n_and_k (Int (pos 1) ∷ []) ≡ Int (pos 1) ∷ Int (pos 7) ∷ []
bound_by_default = ap (λ (v : Value). v ∷ normal_of (Int (pos 7)) ∷ []) (normal_int (pos 1)) ∙ ap (λ (v : Value). Int (pos 1) ∷ v ∷ []) (normal_int (pos 7))

bound_both : bound calls.n_and_k (Int (pos 1) ∷ Int (pos 7) ∷ []) ≡ Int (pos 1) ∷ Int (pos 7) ∷ []
bound_both = ap (λ (v : Value). v ∷ normal_of (Int (pos 7)) ∷ []) (normal_int (pos 1)) ∙ ap (λ (v : Value). Int (pos 1) ∷ v ∷ []) (normal_int (pos 7))

f_of_both : Means (model_of calls.defaulting) (Cell further.main row.f (Int (pos 1) ∷ Int (pos 7) ∷ [])) (Gives (row.whole 8))
f_of_both = means (static_run (Int (pos 1) ∷ Int (pos 7) ∷ []) (one_name (codes "Main")) (top (codes "Main")) refl refl refl bound_both (summing _ (local refl) (plus _ _ (joined_more _ _ (local refl) refl joined_end))) refl)

default_run : RunsTo calls.defaulting calls.c_node calls.default_events (Gives (row.whole 8))
default_run =
    static_run [] (one_name (codes "Main")) (top (codes "Main")) refl refl refl refl
    (post (name_sought refl (in_source found.CellsHere refl refl cells_here)) (call (more lit none) (call_of_cells (top (codes "Main")) refl (one_plain (pos 1)) refl bound_by_default f_of_both) trail_end)) refl

pub default_argument : calls.DefaultArgument
default_argument = default_run.leads

-- ---- names and inputs

global_run : RunsTo calls.with_global calls.c_node calls.global_events (Gives (row.whole 5))
global_run = static_run [] (one_name (codes "Main")) (top (codes "Main")) refl refl refl refl (global_reference refl refl refl refl) refl

pub global_reference_read : calls.GlobalReference
global_reference_read = global_run.leads

given_run : RunsTo calls.with_input calls.c_node (Looked (key.Input calls.c_node) ∷ []) (Gives (row.whole 9))
given_run = input_run (one_name (codes "Main")) refl

pub input_given : calls.InputGiven
input_given = given_run.leads

asking_run : RunsTo calls.with_input (row.cell further.main row.d) calls.input_events (Gives (row.whole 9))
asking_run =
    static_run [] (one_name (codes "Main")) (top (codes "Main")) refl refl refl refl
    (post (name_sought refl (in_source found.CellsHere refl refl cells_here)) (call none (call_of_cells (top (codes "Main")) refl refl refl refl (means given_run)) trail_end)) refl

pub input_asked : calls.InputAsked
input_asked = asking_run.leads

-- ---- generators

sum_5 : gives op.Sum (Tup (Int (pos 2) ∷ Int (pos 3) ∷ []) ∷ []) ≡ Ok (Int (pos 5))
sum_5 = ap (λ (o : Option (List Value)). or_else (of_part (sum_from (Ok (Int (pos 0)))) o) (Err TypeMismatch)) (ap items_in (out_tuple (Int (pos 2) ∷ Int (pos 3) ∷ [])))

pub generator_test : calls.GeneratorTest
generator_test =
    means (static_run [] (one_name (codes "Main")) (top (codes "Main")) refl refl refl refl
    (post (function_named refl refl refl refl refl)
    (call_over_tested (expr.Name loop.i) loop.i (loop.range_to (loop.whole_lit 4)) calls.above_1 refl (post (function_named refl refl refl refl refl) (call (more lit none) (call_of_function range_4) trail_end))
    (tested_out (compare lit (chain_false (local refl) (less_int (pos 1) (pos 0)))) (truth_flag false)
    (tested_out (compare lit (chain_false (local refl) (less_int (pos 1) (pos 1)))) (truth_flag false)
    (tested_in (compare lit (chain_more (local refl) (less_int (pos 1) (pos 2)) chain_end)) (truth_flag true) (local refl)
    (tested_in (compare lit (chain_more (local refl) (less_int (pos 1) (pos 3)) chain_end)) (truth_flag true) (local refl) tested_end))))
    (ints_allowed (pos 2 ∷ pos 3 ∷ [])) (call_of_function sum_5) trail_end)) refl)

sum_3 : gives op.Sum (Tup (Int (pos 0) ∷ Int (pos 1) ∷ Int (pos 2) ∷ []) ∷ []) ≡ Ok (Int (pos 3))
sum_3 = ap (λ (o : Option (List Value)). or_else (of_part (sum_from (Ok (Int (pos 0)))) o) (Err TypeMismatch)) (ap items_in (out_tuple (Int (pos 0) ∷ Int (pos 1) ∷ Int (pos 2) ∷ [])))

pub generator_scope : calls.GeneratorScope
generator_scope =
    means (static_run (Int (pos 3) ∷ []) (one_name (codes "Main")) (top (codes "Main")) refl refl refl (one_bound further.n (pos 3))
    (summing _ (post (function_named refl refl refl refl refl)
    (call_over refl (post (function_named refl refl refl refl refl) (call (more (local refl) none) (call_of_function range_3) trail_end))
    (gen_more (local refl) (gen_more (local refl) (gen_more (local refl) gen_end))) (ints_allowed (pos 0 ∷ pos 1 ∷ pos 2 ∷ [])) (call_of_function sum_3) trail_end))
    (plus _ _ (joined_more _ _ (local refl) refl joined_end))) refl)

abbrev all_env : Env
all_env = line_env calls.c_node (child (codes "Main") root) []

f_at_0 : Means (model_of calls.all_deciding) (loop.at_whole row.f 0) (Gives (row.whole 1))
f_at_0 = means (static_run (Int (pos 0) ∷ []) (one_name (codes "Main")) (top (codes "Main")) refl refl refl (one_bound further.n (pos 0)) (summing _ lit (plus _ _ (joined_more _ _ (local refl) refl joined_end))) refl)

f_at_1 : Means (model_of calls.all_deciding) (loop.at_whole row.f 1) (Gives (row.whole 0))
f_at_1 = means (static_run (Int (pos 1) ∷ []) (one_name (codes "Main")) (top (codes "Main")) refl refl refl (one_bound further.n (pos 1)) (summing _ lit (plus _ _ (joined_more _ _ (local refl) refl joined_end))) refl)

f_called : (j result : ℕ) → Means (model_of calls.all_deciding) (loop.at_whole row.f j) (Gives (row.whole result)) → Comes calls.all_deciding (within loop.i (Int (pos j)) all_env) (further.call_of row.f (expr.Name loop.i ∷ [])) (calls.f_gives j result) (Int (pos result))
f_called j result m = post (name_sought refl (in_source found.CellsHere refl refl cells_here)) (call (more (local refl) none) (call_of_cells (top (codes "Main")) refl (one_plain (pos j)) refl (one_bound further.n (pos j)) m) trail_end)

all_run : RunsTo calls.all_deciding calls.c_node calls.all_events (Gives (record { value = Flag false; namespace = None }))
all_run =
    static_run [] (one_name (codes "Main")) (top (codes "Main")) refl refl refl refl
    (post (function_named refl refl refl refl refl)
    (all_over refl (post (function_named refl refl refl refl refl) (call (more lit none) (call_of_function range_3) trail_end))
    (holds_here (f_called 0 1 f_at_0) (truth_int (pos 1)) (fails_here (f_called 1 0 f_at_1) (truth_int (pos 0)))) trail_end)) refl

pub all_ends_early : calls.AllEndsEarly
all_ends_early = all_run.leads

-- ---- faults

none_added : gives op.Add (Int (pos 1) ∷ Nothing ∷ []) ≡ Err TypeMismatch
none_added =
    ap (λ (content : Content). or_else (of_parts (λ s t. made (Text (s ++ t))) (bytes_in content) (bytes_of Nothing)) (or_else (of_parts (λ s t. made (Tup (s ++ t))) (items_in content) (items_of Nothing)) (Err TypeMismatch))) (out_int (pos 1))

pub no_sum : calls.NoSum
no_sum = static_fault [] (one_name (codes "Main")) (top (codes "Main")) refl refl refl refl (sum_fault sums.Plus (expr.Lit Nothing) [] lit lit none_added)

plain_cells : (at : CellsAt) → is_plain (value.Cells at) ≡ false
plain_cells at = search (values, rules)

pub not_plain_inside : calls.NotPlain
not_plain_inside =
    static_fault [] (one_name (codes "Main")) (top (codes "Main")) refl refl refl refl
    (post_turns (name_sought refl (in_source found.CellsHere refl refl cells_here)) (call_faults (more (name_sought refl (in_source found.CellsHere refl refl cells_here)) none)
    (not_plain (top (codes "Main")) refl (ap (λ (b : Bool). b && true) (plain_cells _)))))

pub not_called : calls.NotCalled
not_called =
    static_fault [] (one_name (codes "Main")) (top (codes "Main")) refl refl refl refl
    (post_turns (name_sought refl (in_source _ refl refl plain_reference)) (call_faults none number_called))

two_plain : (m n : ℤ) → list_all is_plain (Int m ∷ Int n ∷ []) ≡ true
two_plain m n = ap (λ (b : Bool). b && (is_plain (Int n) && true)) (plain_int m) ∙ one_plain n

pub too_many_inside : calls.TooManyInside
too_many_inside =
    static_fault [] (one_name (codes "Main")) (top (codes "Main")) refl refl refl refl
    (post_turns (name_sought refl (in_source found.CellsHere refl refl cells_here)) (call_faults (more lit (more lit none)) (wrong_count (top (codes "Main")) refl (two_plain (pos 1) (pos 2)) refl)))

pub too_few_inside : calls.TooFewInside
too_few_inside =
    static_fault [] (one_name (codes "Main")) (top (codes "Main")) refl refl refl refl
    (post_turns (name_sought refl (in_source found.CellsHere refl refl cells_here)) (call_faults none (wrong_count (top (codes "Main")) refl refl refl)))

-- the numbers below this one
abbrev numbers : ℕ → List Value
numbers n = numbers_from (pos 0) (pos 1) n

numbers_size : (n : ℕ) → total (map size_of (numbers n)) ≡ n
numbers_size zero = refl
numbers_size (suc n) =
    let last : ℤ = pos 0 +ℤ pos n *ℤ pos 1 in
    let h : total (map size_of (numbers n)) ≡ n = numbers_size n in
    let one : total (map size_of (Int last ∷ [])) ≡ 1 = ap (λ (a : ℕ). total (a ∷ [])) (size_int last) in
    joined_sum (numbers n) (Int last ∷ []) ∙ omega (arith, h, one)

too_many : (n : ℕ) → nat_le (1 + n) 1_000_000 ≡ false → made (Tup (numbers n)) ≡ Err TooLarge
too_many n large =
    let fits : Bool = nat_le (nesting_of (Tup (numbers n))) 64 in
    ap (λ (size : ℕ). if nat_le size 1_000_000 && fits then Ok (Tup (numbers n)) else Err TooLarge) (size_tuple (numbers n) ∙ ap (λ (a : ℕ). 1 + a) (numbers_size n))
    ∙ ap (λ (b : Bool). if b && fits then Ok (Tup (numbers n)) else Err TooLarge) large

pub range_too_large : calls.RangeTooLarge
range_too_large =
    static_fault [] (one_name (codes "Main")) (top (codes "Main")) refl refl refl refl (post_turns (function_named refl refl refl refl refl) (call_faults (more lit none) (function_faults (too_many 1_000_000 refl))))

-- ---- a display replaces a parameter

abbrev replaced_space : Namespace
replaced_space = record { at = row.s_item 4; source = row.space_s; overlay = (row.k, Int (pos 5)) ∷ [] }

replaced_item : RunsTo calls.replacing (Item (row.named (codes "S") ∷ []) (Int (pos 4) ∷ [])) (Looked (key.Params row.space_s) ∷ []) (Gives (record { value = Space (row.s_item 4); namespace = Some replaced_space }))
replaced_item =
    displayed_item (Int (pos 4) ∷ []) (top (codes "S")) (ends (codes "S")) refl refl (one_bound row.k (pos 4)) (small (codes "S") (pos 4))
    (display_refs (more_refs (summing _ (local refl) (plus _ _ (joined_more _ _ lit refl joined_end))) no_refs) display_end) refl

replaced_walk : Walks calls.replacing replaced_space (item_events (child (codes "S") root) (Int (pos 4) ∷ []) (record { value = Space (row.s_item 4); namespace = Some replaced_space }))
replaced_walk = inside (top (codes "S")) refl (ends (codes "S")) refl refl (one_bound row.k (pos 4)) (means replaced_item) refl

pub parameter_replaced : calls.ParameterReplaced
parameter_replaced = means (within_run [] (has_item (codes "S") (Int (pos 4) ∷ []) []) replaced_walk refl refl refl (name_sought refl (in_overlay refl)) refl)
