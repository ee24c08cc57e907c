-- The worked examples of statements, by the rules.
use Rattle.std.proofs.Common.{◌≡◌, ℕ, ◌+◌, pos, List, [], ◌∷◌, ◌++◌, None, Some, refl, ◌∙◌, ap, sym, subst, Ok, Err, Bool, true, false, if◌then◌else◌, map}
use Rattle.std.specs.Prelude.{codes}
use Rattle.std.specs.List.{sum}
use Rattle.mx_value.specs.declared.label.Label.{Label}
use Rattle.mx_value.specs.declared.value.Value.TheVariants.{Int, Tup}
use Rattle.mx_value.specs.declared.fault.FaultKind.{FaultKind}
use Rattle.mx_value.specs.declared.fault.FaultKind.TheVariants.{TooLarge}
use Rattle.mx_syntax.specs.declared.expr.Expr.{Expr}
use Rattle.mx_syntax.specs.declared.expr.Expr.TheVariants as expr
use Rattle.mx_syntax.specs.declared.expr.ProductPart.{roll-ProductPart}
use Rattle.mx_syntax.specs.declared.expr.ProductOp.TheVariants as products
use Rattle.mx_syntax.specs.declared.stmt.Stmt.{Stmt}
use Rattle.mx_syntax.specs.declared.stmt.Stmt.TheVariants as stmt
use Rattle.mx_syntax.specs.declared.stmt.ArithOp.TheVariants as arithmetic
use Rattle.mx_syntax.specs.declared.stmt.IfArm.{IfArm}
use Rattle.mx_syntax.specs.Lists.{flat}
use Rattle.mx_syntax.specs.Heights.{height, arm_height, first_line}
use Rattle.mx_syntax.specs.Locals.{bound_by, arm_bound, add_all}
use Rattle.mx_edit.specs.declared.key.Key.{Key}
use Rattle.mx_edit.specs.declared.key.KeyResult.{KeyResult}
use Rattle.mx_syntax.specs.declared.op.Op.TheVariants as op
use Rattle.mx_ops.specs.Table.{gives}
use Rattle.mx_runs.specs.Runs.{Event}
use Rattle.mx_meaning.specs.Namespaces.{root, child}
use Rattle.mx_meaning.specs.Environments.{Env, Locals}
use Rattle.mx_meaning.specs.Statements.{Returned}
use Rattle.mx_meaning.specs.Nodes.{unset_locals}
use Rattle.mx_formula_examples.specs.Rows as row
use Rattle.mx_formula_examples.specs.FurtherRows as further
use Rattle.mx_formula_examples.specs.LoopRows as loop
use Rattle.mx_formula_examples.specs.FormRows as form
use Rattle.mx_formula_examples.proofs.Equations.{bound-change, bound-assign, bound-for, bound-return, height-assign, height-for}
use Rattle.mx_formula_examples.proofs.Rules.{top, lit, local, post, call, none, more, trail_end}
use Rattle.mx_formula_examples.proofs.NodeRules.{means}
use Rattle.mx_formula_examples.proofs.FormRules.{function_named, call_of_function, compare, chain_more, chain_false, chain_end}
use Rattle.mx_formula_examples.proofs.LoopRules.{BodyGoes, for_goes, loop_more, loop_end, ints_allowed, DoneComes, DoneStops, product_fault, then_returns, then_stops, returned, return_stops, assign_goes, one_goes, body_run, body_fault}
use Rattle.mx_formula_examples.proofs.OperatorRules.{truth_int, truth_flag, less_int}
use Rattle.mx_formula_examples.proofs.ChoiceRules.{first_line-if, height-if, height-arm, height-return, bound-if, bound-if_else, bound-arm, no_arm, other_returns, arm_returns, arm_goes, arm_fails, arm_stops, statement_stops, choose, choose_or, goes_on, statement_returns, local_unset, change_unset, bound-pass, first_line-pass, pass_goes, end_run}
use Rattle.mx_formula_examples.proofs.Worked.{one_name, one_bound}
use Rattle.mx_formula_examples.proofs.LoopWorked.{by_zero, range_3}

abbrev as_locals : List Label → Locals
as_locals names = map (λ (name : Label). (name, None)) (add_all [] names)

-- ---- three ways

gives_free : (j : ℕ) → flat (map bound_by (form.give j)) ≡ []
gives_free j = ap (λ (names : List Label). names ++ []) (bound-return (Some (loop.whole_lit j)))

abbrev way : ℕ → ℕ → IfArm
way i j = form.if_arm (form.n_below i) (form.give j)

way_free : (i j : ℕ) → arm_bound (way i j) ≡ []
way_free i j = bound-arm (form.n_below i) (form.give j) ∙ gives_free j

way_height : (i j : ℕ) → arm_height (way i j) ≡ 2
way_height i j = height-arm (form.n_below i) (form.give j) ∙ ap (λ (a : ℕ). sum (a ∷ []) + 1) (height-return (loop.whole_lit j))

abbrev ways : List IfArm
ways = way 1 10 ∷ way 3 20 ∷ []

none_set : unset_locals form.three_ways ≡ []
none_set =
    ap (λ (names : List Label). as_locals (names ++ [])) (bound-if_else ways (form.give 30))
    ∙ ap (λ (names : List Label). as_locals (((names ++ (arm_bound (way 3 20) ++ [])) ++ flat (map bound_by (form.give 30))) ++ [])) (way_free 1 10)
    ∙ ap (λ (names : List Label). as_locals ((([] ++ (names ++ [])) ++ flat (map bound_by (form.give 30))) ++ [])) (way_free 3 20) ∙ ap (λ (names : List Label). as_locals ((([] ++ []) ++ names) ++ [])) (gives_free 30)

-- the one statement of a body, an `if`, stands in the second line
in_second_line : {look : Key → KeyResult} {env : Env} {es : List Event} {x : Returned} → DoneComes look env form.three_ways 2 es x → DoneComes look env form.three_ways (first_line form.three_ways) es x
in_second_line {look = look} {env = env} {es = es} {x = x} p = subst (λ (line : ℕ). DoneComes look env form.three_ways line es x) (sym (first_line-if ways (Some (form.give 30)))) p

pub if_taken : form.IfTaken
if_taken =
    means (body_run (Int (pos 0) ∷ []) [] (one_name (codes "Main")) (top (codes "Main")) refl refl refl (one_bound further.n (pos 0)) none_set
    (in_second_line (statement_returns (choose_or (arm_returns (compare (local refl) (chain_more lit (less_int (pos 0) (pos 1)) chain_end)) (truth_flag true) (returned lit))))) refl)

pub elif_taken : form.ElifTaken
elif_taken =
    means (body_run (Int (pos 2) ∷ []) [] (one_name (codes "Main")) (top (codes "Main")) refl refl refl (one_bound further.n (pos 2)) none_set
    (in_second_line (statement_returns (choose_or (arm_fails (compare (local refl) (chain_false lit (less_int (pos 2) (pos 1)))) (truth_flag false) (way_height 1 10)
    (arm_returns (compare (local refl) (chain_more lit (less_int (pos 2) (pos 3)) chain_end)) (truth_flag true) (returned lit)))))) refl)

pub else_taken : form.ElseTaken
else_taken =
    means (body_run (Int (pos 3) ∷ []) [] (one_name (codes "Main")) (top (codes "Main")) refl refl refl (one_bound further.n (pos 3)) none_set
    (in_second_line (statement_returns (choose_or (arm_fails (compare (local refl) (chain_false lit (less_int (pos 3) (pos 1)))) (truth_flag false) (way_height 1 10)
    (arm_fails (compare (local refl) (chain_false lit (less_int (pos 3) (pos 3)))) (truth_flag false) (way_height 3 20) (other_returns (returned lit))))))) refl)

-- ---- a fault of a test

abbrev quotient : Expr
quotient = expr.Product (expr.Name further.n) (roll-ProductPart (record { op = products.Over; of = loop.whole_lit 0 }) ∷ [])

abbrev test_ways : List IfArm
test_ways = way 1 10 ∷ form.if_arm quotient (form.give 20) ∷ []

no_locals : unset_locals form.dividing_test ≡ []
no_locals =
    ap (λ (names : List Label). as_locals (names ++ [])) (bound-if test_ways) ∙ ap (λ (names : List Label). as_locals (((names ++ (arm_bound (form.if_arm quotient (form.give 20)) ++ [])) ++ []) ++ [])) (way_free 1 10)
    ∙ ap (λ (names : List Label). as_locals ((([] ++ (names ++ [])) ++ []) ++ [])) (bound-arm quotient (form.give 20) ∙ gives_free 20)

-- where the second test is computed
abbrev at_elif : Env
at_elif = record { node = loop.at_whole row.f 4; namespace = child (codes "Main") root; line = 4; locals = (further.n, Some (Int (pos 4))) ∷ [] }

pub fault_at_elif : form.FaultAtElif
fault_at_elif =
    body_fault (Int (pos 4) ∷ []) [] (one_name (codes "Main")) (top (codes "Main")) refl refl refl (one_bound further.n (pos 4)) no_locals
    (stops_in_second_line (statement_stops {at = at_elif} (choose (arm_fails (compare (local refl) (chain_false lit (less_int (pos 4) (pos 1)))) (truth_flag false) (way_height 1 10) (arm_stops (product_fault products.Over (loop.whole_lit 0) [] (local refl) lit by_zero))))))
  where
    stops_in_second_line : {look : Key → KeyResult} {env at : Env} {es : List Event} {kind : FaultKind} → DoneStops look env form.dividing_test 2 es kind at → DoneStops look env form.dividing_test (first_line form.dividing_test) es kind at
    stops_in_second_line {look = look} {env = env} {at = at} {es = es} {kind = kind} p = subst (λ (line : ℕ). DoneStops look env form.dividing_test line es kind at) (sym (first_line-if test_ways None)) p

-- ---- a local that may not be set

abbrev set_x : List Stmt
set_x = stmt.Assign row.x (loop.whole_lit 1) ∷ []

abbrev setting : IfArm
setting = form.if_arm (expr.Name further.n) set_x

setting_height : arm_height setting ≡ 2
setting_height = height-arm (expr.Name further.n) set_x ∙ ap (λ (a : ℕ). sum (a ∷ []) + 1) (height-assign row.x (loop.whole_lit 1))

if_height : height (stmt.If (setting ∷ []) None) ≡ 2
if_height = height-if (setting ∷ []) ∙ ap (λ (a : ℕ). sum (a ∷ []) + 0) setting_height

x_unset : unset_locals form.maybe_set ≡ (row.x, None) ∷ []
x_unset =
    ap (λ (names : List Label). as_locals (names ++ (bound_by (stmt.Return (Some (expr.Name row.x))) ++ []))) (bound-if (setting ∷ []))
    ∙ ap (λ (names : List Label). as_locals (((names ++ []) ++ []) ++ (bound_by (stmt.Return (Some (expr.Name row.x))) ++ []))) (bound-arm (expr.Name further.n) set_x)
    ∙ ap (λ (names : List Label). as_locals ((((names ++ []) ++ []) ++ []) ++ (bound_by (stmt.Return (Some (expr.Name row.x))) ++ []))) (bound-assign row.x (loop.whole_lit 1))
    ∙ ap (λ (names : List Label). as_locals ((row.x ∷ []) ++ (names ++ []))) (bound-return (Some (expr.Name row.x)))

pub local_set : form.LocalSet
local_set =
    means (body_run (Int (pos 1) ∷ []) ((row.x, None) ∷ []) (one_name (codes "Main")) (top (codes "Main")) refl refl refl (one_bound further.n (pos 1)) x_unset
    (then_returns (goes_on (choose (arm_goes (local refl) (truth_int (pos 1)) (one_goes (assign_goes lit))))) if_height (returned (local refl))) refl)

pub unset_local : form.LocalUnset
unset_local =
    body_fault (Int (pos 0) ∷ []) ((row.x, None) ∷ []) (one_name (codes "Main")) (top (codes "Main")) refl refl refl (one_bound further.n (pos 0)) x_unset
    (then_stops (goes_on (choose (arm_fails (local refl) (truth_int (pos 0)) setting_height no_arm))) if_height (return_stops (local_unset refl)))

-- ---- a change

changed_unset : unset_locals form.changing_first ≡ (row.x, None) ∷ []
changed_unset =
    ap (λ (names : List Label). as_locals (names ++ (bound_by (stmt.Return (Some (expr.Name row.x))) ++ []))) (bound-change row.x arithmetic.Add quotient)
    ∙ ap (λ (names : List Label). as_locals ((row.x ∷ []) ++ (names ++ []))) (bound-return (Some (expr.Name row.x)))

-- where the change is done
abbrev at_change : Env
at_change = record { node = loop.at_whole row.f 4; namespace = child (codes "Main") root; line = 2; locals = (further.n, Some (Int (pos 4))) ∷ (row.x, None) ∷ [] }

pub change_reads_first : form.ChangeReadsFirst
change_reads_first =
    body_fault (Int (pos 4) ∷ []) ((row.x, None) ∷ []) (one_name (codes "Main")) (top (codes "Main")) refl refl refl (one_bound further.n (pos 4)) changed_unset (statement_stops {at = at_change} (change_unset refl))

-- ---- the name of a loop

abbrev over_range : Expr
over_range = loop.range_to (expr.Name further.n)

abbrev loop_set : List Stmt
loop_set = stmt.Assign row.x (expr.Name loop.i) ∷ []

abbrev later : Locals
later = (loop.i, None) ∷ (row.x, None) ∷ []

both_unset : unset_locals form.last_of_loop ≡ later
both_unset =
    ap (λ (names : List Label). as_locals (names ++ (bound_by (stmt.Return (Some (expr.Name loop.i))) ++ []))) (bound-for loop.i over_range loop_set)
    ∙ ap (λ (names : List Label). as_locals ((loop.i ∷ (names ++ [])) ++ (bound_by (stmt.Return (Some (expr.Name loop.i))) ++ []))) (bound-assign row.x (expr.Name loop.i))
    ∙ ap (λ (names : List Label). as_locals ((loop.i ∷ row.x ∷ []) ++ (names ++ []))) (bound-return (Some (expr.Name loop.i)))

loop_height : height (stmt.For loop.i over_range loop_set) ≡ 2
loop_height = height-for loop.i over_range loop_set ∙ ap (λ (a : ℕ). sum (a ∷ []) + 1) (height-assign row.x (expr.Name loop.i))

pub loop_name_stays : form.LoopNameStays
loop_name_stays =
    means (body_run (Int (pos 3) ∷ []) later (one_name (codes "Main")) (top (codes "Main")) refl refl refl (one_bound further.n (pos 3)) both_unset
    (then_returns (for_goes (post (function_named refl refl refl refl refl) (call (more (local refl) none) (call_of_function range_3) trail_end))
    (loop_more (one_goes (assign_goes (local refl))) (loop_more (one_goes (assign_goes (local refl))) (loop_more (one_goes (assign_goes (local refl))) loop_end)))) loop_height (returned (local refl))) refl)

range_0 : gives op.Range (Int (pos 0) ∷ []) ≡ Ok (Tup [])
range_0 = ap (λ (b : Bool). if b then Ok (Tup []) else Err TooLarge) (ints_allowed [])

pub loop_name_unset : form.LoopNameUnset
loop_name_unset =
    body_fault (Int (pos 0) ∷ []) later (one_name (codes "Main")) (top (codes "Main")) refl refl refl (one_bound further.n (pos 0)) both_unset
    (then_stops (for_goes (post (function_named refl refl refl refl refl) (call (more (local refl) none) (call_of_function range_0) trail_end)) loop_end) loop_height (return_stops (local_unset refl)))

-- ---- a body that comes to its end

pub end_gives_none : form.EndGivesNone
end_gives_none =
    means (end_run (Int (pos 1) ∷ []) [] (one_name (codes "Main")) (top (codes "Main")) refl refl refl (one_bound further.n (pos 1)) (ap (λ (names : List Label). as_locals (names ++ [])) bound-pass)
    (passes_in_second_line (one_goes pass_goes)) refl)
  where
    passes_in_second_line : {look : Key → KeyResult} {env next : Env} {es : List Event} → BodyGoes look env (stmt.Pass ∷ []) 2 es next → BodyGoes look env (stmt.Pass ∷ []) (first_line (stmt.Pass ∷ [])) es next
    passes_in_second_line {look = look} {env = env} {next = next} {es = es} p = subst (λ (line : ℕ). BodyGoes look env (stmt.Pass ∷ []) line es next) (sym first_line-pass) p
