-- The worked examples of operators, by the rules.
use Rattle.std.proofs.Common.{◌≡◌, pos, List, [], ◌∷◌, ◌++◌, refl, ◌∙◌, ap, Ok, true, false, rules}
use Rattle.std.specs.Prelude.{codes}
use Rattle.std.specs.Bool.{beq}
use Rattle.mx_value.specs.Fixed.{checked, fixed_from_int, power_of, fixed_pow, fixed_mul, fixed_div}
use Rattle.mx_value.specs.Rounding.{half_even, nearest}
use Rattle.mx_value.specs.declared.value.Value.{Value, out-Value, the_lemmas as values}
use Rattle.mx_value.specs.declared.value.Value.TheVariants.{Int, Flag, Nothing, Tup, Fix}
use Rattle.mx_value.specs.declared.value.Segment.TheOpen.{Value-F}
use Rattle.mx_syntax.specs.declared.expr.Expr.{Expr}
use Rattle.mx_syntax.specs.declared.expr.Expr.TheVariants as expr
use Rattle.mx_syntax.specs.declared.expr.Sign.TheVariants as sign
use Rattle.mx_edit.specs.declared.key.Key.TheVariants as key
use Rattle.mx_edit.specs.declared.key.KeyResult.TheVariants as found
use Rattle.mx_ops.specs.Kinds.{Content}
use Rattle.mx_syntax.specs.declared.op.Op.TheVariants as op
use Rattle.mx_ops.specs.Table.{gives}
use Rattle.mx_runs.specs.Runs.{Gives, Event, Looked}
use Rattle.mx_runs.specs.Meaning.{Means}
use Rattle.mx_meaning.specs.Namespaces.{root, child}
use Rattle.mx_meaning.specs.Environments.{Env}
use Rattle.mx_meaning.specs.Operations.{and_then, denied, powered}
use Rattle.mx_meaning.specs.Expressions.{nothing_in}
use Rattle.mx_meaning.specs.Laws.{model_of}
use Rattle.mx_formula_examples.specs.Rows as row
use Rattle.mx_formula_examples.specs.FurtherRows as further
use Rattle.mx_formula_examples.specs.FormRows as form
use Rattle.mx_formula_examples.proofs.Equations.{out_int}
use Rattle.mx_formula_examples.proofs.Rules.{Comes, top, lit, in_source, name_sought, cells_here, post, call, none, more, trail_end, call_of_cells}
use Rattle.mx_formula_examples.proofs.NodeRules.{RunsTo, means, given_value, static_run, line_env}
use Rattle.mx_formula_examples.proofs.FormRules.{compare, chain_more, chain_false, chain_end}
use Rattle.mx_formula_examples.proofs.LoopRules.{ints_allowed}
use Rattle.mx_formula_examples.proofs.OperatorRules.{power, powers_more, powers_end, with_signs, denial, any_part, all_parts, part_passed, part_decides, last_part, tuple, none_asked, is_none, is_not_none, truth_int, truth_flag, less_int, not_int, not_flag}
use Rattle.mx_formula_examples.proofs.Worked.{one_name}

out_nothing : out-Value Nothing ≡ Value-F.Nothing
out_nothing = search (values, rules)

-- where c() runs
abbrev line : Env
line = line_env (row.cell further.main row.c) (child (codes "Main") root) []

a_gives : (e : Expr) → Means (model_of (form.with_line e)) (row.cell further.main further.a) (Gives (row.whole 1))
a_gives e = means (static_run [] (one_name (codes "Main")) (top (codes "Main")) refl refl refl refl lit refl)

b_gives : (e : Expr) → Means (model_of (form.with_line e)) (row.cell further.main further.b) (Gives (row.whole 2))
b_gives e = means (static_run [] (one_name (codes "Main")) (top (codes "Main")) refl refl refl refl lit refl)

a_asked : {e : Expr} → Comes (form.with_line e) line (further.call_of further.a []) (form.ask_events further.a 1) (Int (pos 1))
a_asked {e = e} = post (name_sought refl (in_source found.CellsHere refl refl cells_here)) (call none (call_of_cells (top (codes "Main")) refl refl refl refl (a_gives e)) trail_end)

b_asked : {e : Expr} → Comes (form.with_line e) line (further.call_of further.b []) (form.ask_events further.b 2) (Int (pos 2))
b_asked {e = e} = post (name_sought refl (in_source found.CellsHere refl refl cells_here)) (call none (call_of_cells (top (codes "Main")) refl refl refl refl (b_gives e)) trail_end)

pub powers_from_right : form.PowersFromRight
powers_from_right = means (static_run [] (one_name (codes "Main")) (top (codes "Main")) refl refl refl refl (power lit (powers_more _ _ lit (powers_more _ _ lit powers_end)) refl) refl)

pub sign_of_power : form.SignOfPower
sign_of_power = means (static_run [] (one_name (codes "Main")) (top (codes "Main")) refl refl refl refl (with_signs (power lit (powers_more _ _ lit powers_end) refl) refl) refl)

half : powered (Int (pos 2)) ((sign.Minus ∷ [], Int (pos 1)) ∷ ([], Int (pos 2)) ∷ []) ≡ Ok (Fix (pos 500_000_000))
unfolding fixed_from_int fixed_pow power_of fixed_mul fixed_div checked half_even nearest
half = refl

pub sign_within_power : form.SignWithinPower
sign_within_power = means (static_run [] (one_name (codes "Main")) (top (codes "Main")) refl refl refl refl (power lit (powers_more _ _ lit (powers_more _ _ lit powers_end)) half) refl)

pub chain_of_neighbours : form.ChainOfNeighbours
chain_of_neighbours = means (static_run [] (one_name (codes "Main")) (top (codes "Main")) refl refl refl refl (compare lit (chain_more lit (less_int (pos 1) (pos 2)) (chain_false lit (less_int (pos 2) (pos 2))))) refl)

abbrev LineRuns : Expr → List Event → Value → Type 0
LineRuns e es v = RunsTo (form.with_line e) (row.cell further.main row.c) (Looked (key.Input (row.cell further.main row.c)) ∷ Looked (key.Cells row.space_main row.c) ∷ es) (Gives (given_value v))

chain_run : LineRuns form.short_chain (form.ask_events further.a 1) (Flag false)
chain_run = static_run [] (one_name (codes "Main")) (top (codes "Main")) refl refl refl refl (compare lit (chain_false a_asked (less_int (pos 2) (pos 1)))) refl

pub chain_ends_early : form.ChainEndsEarly
chain_ends_early = chain_run.leads

long_run : LineRuns form.long_chain (form.ask_events further.a 1 ++ form.ask_events further.b 2) (Flag true)
long_run =
    static_run [] (one_name (codes "Main")) (top (codes "Main")) refl refl refl refl
    (compare lit (chain_more a_asked (less_int (pos 0) (pos 1)) (chain_more b_asked (less_int (pos 1) (pos 2)) chain_end))) refl

pub chain_asks_once : form.ChainAsksOnce
chain_asks_once = long_run.leads

pub none_is_none : form.NoneIsNone
none_is_none = means (static_run [] (one_name (codes "Main")) (top (codes "Main")) refl refl refl refl (compare lit (none_asked is_none (ap (λ (content : Content). beq (nothing_in content) true) out_nothing))) refl)

pub zero_is_none : form.ZeroIsNone
zero_is_none = means (static_run [] (one_name (codes "Main")) (top (codes "Main")) refl refl refl refl (compare lit (none_asked is_none (ap (λ (content : Content). beq (nothing_in content) true) (out_int (pos 0))))) refl)

pub zero_is_not_none : form.ZeroIsNotNone
zero_is_not_none = means (static_run [] (one_name (codes "Main")) (top (codes "Main")) refl refl refl refl (compare lit (none_asked is_not_none (ap (λ (content : Content). beq (nothing_in content) false) (out_int (pos 0))))) refl)

or_run : LineRuns form.or_line (form.ask_events further.b 2) (Int (pos 2))
or_run =
    static_run [] (one_name (codes "Main")) (top (codes "Main")) refl refl refl refl
    (any_part lit (part_passed (truth_int (pos 0)) refl b_asked (part_decides (truth_int (pos 2)) refl))) refl

pub or_ends_early : form.OrEndsEarly
or_ends_early = or_run.leads

and_run : LineRuns form.and_line (form.ask_events further.a 1) (Int (pos 0))
and_run =
    static_run [] (one_name (codes "Main")) (top (codes "Main")) refl refl refl refl
    (all_parts a_asked (part_passed (truth_int (pos 1)) refl lit (part_decides (truth_int (pos 0)) refl))) refl

pub and_ends_early : form.AndEndsEarly
and_ends_early = and_run.leads

pub or_gives_last : form.OrGivesLast
or_gives_last = means (static_run [] (one_name (codes "Main")) (top (codes "Main")) refl refl refl refl (any_part lit (part_passed (truth_flag false) refl lit last_part)) refl)

pub and_gives_last : form.AndGivesLast
and_gives_last = means (static_run [] (one_name (codes "Main")) (top (codes "Main")) refl refl refl refl (all_parts lit (part_passed (truth_int (pos 1)) refl lit last_part)) refl)

not_not_3 : denied 2 (Int (pos 3)) ≡ Ok (Flag true)
not_not_3 = ap (λ r. and_then r (λ w. gives op.Not (w ∷ []))) (not_int (pos 3)) ∙ not_flag false

pub double_not : form.DoubleNot
double_not = means (static_run [] (one_name (codes "Main")) (top (codes "Main")) refl refl refl refl (denial lit not_not_3) refl)

power_run : LineRuns (expr.Power (further.call_of further.b []) (form.power_part [] (further.call_of further.a []) ∷ [])) (form.ask_events further.b 2 ++ form.ask_events further.a 1) (Int (pos 2))
power_run = static_run [] (one_name (codes "Main")) (top (codes "Main")) refl refl refl refl (power b_asked (powers_more _ _ a_asked powers_end) refl) refl

pub power_asks_from_left : form.PowerAsksFromLeft
power_asks_from_left = power_run.leads

tuple_run : LineRuns form.tuple_line (form.ask_events further.b 2 ++ form.ask_events further.a 1) (Tup (Int (pos 2) ∷ Int (pos 1) ∷ []))
tuple_run = static_run [] (one_name (codes "Main")) (top (codes "Main")) refl refl refl refl (tuple (more b_asked (more a_asked none)) (ints_allowed (pos 2 ∷ pos 1 ∷ []))) refl

pub tuple_from_left : form.TupleFromLeft
tuple_from_left = tuple_run.leads
