-- The worked examples of statements, loops, generators, faults and nodes that are not there, by the rules.
use Rattle.std.proofs.Common.{◌≡◌, ℕ, pos, List, [], ◌∷◌, ◌++◌, ◌+◌, refl, ◌∙◌, ap, subst, Ok, Err, Some, None, Option, Bool, true, false, if◌then◌else◌, map}
use Rattle.std.specs.Prelude.{codes, sum as total}
use Rattle.mx_value.specs.Fixed.{fixed_div}
use Rattle.mx_value.specs.declared.label.Label.{Label}
use Rattle.mx_value.specs.declared.value.Value.{Value}
use Rattle.mx_value.specs.declared.value.Value.TheVariants.{Int, Tup, Nothing, Flag}
use Rattle.mx_value.specs.declared.value.Segment.TheVariants as segment
use Rattle.mx_value.specs.declared.namespace.Namespace.{Namespace}
use Rattle.mx_value.specs.declared.fault.FaultKind.TheVariants.{TypeMismatch, TooLarge, NoneReturned, BadItem, ZeroDivision}
use Rattle.mx_value.specs.declared.node.Node.{Node}
use Rattle.mx_syntax.specs.declared.expr.Expr.{Expr}
use Rattle.mx_syntax.specs.declared.expr.Expr.TheVariants as expr
use Rattle.mx_syntax.specs.declared.expr.ProductPart.{roll-ProductPart}
use Rattle.mx_syntax.specs.declared.expr.ProductOp.TheVariants as products
use Rattle.mx_syntax.specs.declared.stmt.Stmt.{Stmt}
use Rattle.mx_syntax.specs.declared.stmt.Stmt.TheVariants as stmt
use Rattle.mx_syntax.specs.declared.stmt.ArithOp.TheVariants as arithmetic
use Rattle.mx_syntax.specs.declared.stmt.ItemEntry.TheVariants as entry
use Rattle.mx_syntax.specs.Heights.{height}
use Rattle.mx_syntax.specs.Locals.{bound_by, add_all}
use Rattle.mx_edit.specs.declared.key.Key.TheVariants as key
use Rattle.mx_edit.specs.declared.key.KeyResult.TheVariants as found
use Rattle.mx_syntax.specs.declared.op.Op.TheVariants as op
use Rattle.mx_ops.specs.Kinds.{Content, items_in}
use Rattle.mx_ops.specs.Rows.{or_else, of_part}
use Rattle.mx_ops.specs.Builtins.{sum_from}
use Rattle.mx_ops.specs.Truth.{truth_in}
use Rattle.mx_ops.specs.Table.{gives}
use Rattle.mx_runs.specs.Runs.{Run, Ends, Tests, Gives, Faults, NoSuch, WrongCount, Looked, Tested}
use Rattle.mx_runs.specs.Meaning.{Means, Leads}
use Rattle.mx_runs.proofs.Meanings.{finished}
use Rattle.mx_meaning.specs.Namespaces.{Step, Overlay, root, child}
use Rattle.mx_meaning.specs.Walks.{item_entered, stepped, walked_from, walked}
use Rattle.mx_meaning.specs.Binding.{cell_bound}
use Rattle.mx_meaning.specs.Environments.{Env, Locals, within}
use Rattle.mx_meaning.specs.Lookup.{as_value}
use Rattle.mx_meaning.specs.Operations.{multiplying, of_two}
use Rattle.mx_meaning.specs.Statements.{Returned, Plain, Display, displayed_from}
use Rattle.mx_meaning.specs.Nodes.{unset_locals, cells_returned, source_or_fault, path_in, item_given, item_returned}
use Rattle.mx_meaning.specs.Laws.{model_of}
use Rattle.mx_formula_examples.specs.Rows as row
use Rattle.mx_formula_examples.specs.FurtherRows as further
use Rattle.mx_formula_examples.specs.LoopRows as loop
use Rattle.mx_meaning.proofs.Walking.{out_name, out_item}
use Rattle.mx_formula_examples.proofs.Equations.{out_int, out_tuple, bound-assign, bound-change, bound-for, bound-return, height-assign, height-change, height-for}
use Rattle.mx_formula_examples.proofs.Rules.{from, Comes, top, lit, local, in_source, name_sought, cells_here, product, times, joined_end, joined_more, post, call, none, more, trail_end, call_of_cells}
use Rattle.mx_formula_examples.proofs.NodeRules.{RunsTo, means, static_run, line_env, one_line, static_lead, line_leads, item_leads, display_done, DisplayComes, display_base, display_end}
use Rattle.mx_formula_examples.proofs.FormRules.{function_named, call_of_function}
use Rattle.mx_formula_examples.proofs.LoopRules.{ints_allowed, then_returns, then_stops, returned, return_stops, assign_goes, change_goes, for_goes, one_goes, loop_more, loop_end, gen_more, gen_end, call_over, any_over, decides_here, decides_later, body_run, body_fault, product_fault}
use Rattle.mx_formula_examples.proofs.Worked.{ends, one_name, one_bound, small}
use Rattle.mx_formula_examples.proofs.FurtherWorked.{one_plain}

-- ---- ranges

pub range_3 : gives op.Range (Int (pos 3) ∷ []) ≡ Ok (Tup (Int (pos 0) ∷ Int (pos 1) ∷ Int (pos 2) ∷ []))
range_3 = ap (λ (b : Bool). if b then Ok (Tup (Int (pos 0) ∷ Int (pos 1) ∷ Int (pos 2) ∷ [])) else Err TooLarge) (ints_allowed (pos 0 ∷ pos 1 ∷ pos 2 ∷ []))

pub range_4 : gives op.Range (Int (pos 4) ∷ []) ≡ Ok (Tup (Int (pos 0) ∷ Int (pos 1) ∷ Int (pos 2) ∷ Int (pos 3) ∷ []))
range_4 = ap (λ (b : Bool). if b then Ok (Tup (Int (pos 0) ∷ Int (pos 1) ∷ Int (pos 2) ∷ Int (pos 3) ∷ [])) else Err TooLarge) (ints_allowed (pos 0 ∷ pos 1 ∷ pos 2 ∷ pos 3 ∷ []))

-- ---- a loop

abbrev later : Locals
later = (loop.s, None) ∷ (loop.i, None) ∷ []

abbrev as_locals : List Label → Locals
as_locals names = map (λ (name : Label). (name, None)) (add_all [] names)

abbrev loop_change : List Stmt
loop_change = stmt.Change loop.s arithmetic.Add (expr.Name loop.i) ∷ []

abbrev loop_for : Stmt
loop_for = stmt.For loop.i (loop.range_to (expr.Name further.n)) loop_change

abbrev loop_return : Stmt
loop_return = stmt.Return (Some (expr.Name loop.s))

loop_unset : unset_locals loop.loop_body ≡ later
loop_unset =
    ap (λ (names : List Label). as_locals (names ++ (bound_by loop_for ++ (bound_by loop_return ++ [])))) (bound-assign loop.s (loop.whole_lit 0))
    ∙ ap (λ (names : List Label). as_locals ((loop.s ∷ []) ++ (names ++ (bound_by loop_return ++ [])))) (bound-for loop.i (loop.range_to (expr.Name further.n)) loop_change)
    ∙ ap (λ (names : List Label). as_locals ((loop.s ∷ []) ++ ((loop.i ∷ (names ++ [])) ++ (bound_by loop_return ++ [])))) (bound-change loop.s arithmetic.Add (expr.Name loop.i))
    ∙ ap (λ (names : List Label). as_locals ((loop.s ∷ []) ++ ((loop.i ∷ loop.s ∷ []) ++ (names ++ [])))) (bound-return (Some (expr.Name loop.s)))

for_height : height loop_for ≡ 2
for_height = height-for loop.i (loop.range_to (expr.Name further.n)) loop_change ∙ ap (λ (a : ℕ). total (a ∷ []) + 1) (height-change loop.s arithmetic.Add (expr.Name loop.i))

pub looped : loop.Looped
looped =
    means (body_run (Int (pos 3) ∷ []) later (one_name (codes "Main")) (top (codes "Main")) refl refl refl (one_bound further.n (pos 3)) loop_unset
    (then_returns (assign_goes lit) (height-assign loop.s (loop.whole_lit 0))
    (then_returns (for_goes (post (function_named refl refl refl refl refl) (call (more (local refl) none) (call_of_function range_3) trail_end))
    (loop_more (one_goes (change_goes refl (local refl) refl)) (loop_more (one_goes (change_goes refl (local refl) refl)) (loop_more (one_goes (change_goes refl (local refl) refl)) loop_end))))
    for_height (returned (local refl)))) refl)

-- ---- a generator

abbrev four : List Value
four = Int (pos 0) ∷ Int (pos 1) ∷ Int (pos 4) ∷ Int (pos 9) ∷ []

sum_14 : gives op.Sum (Tup four ∷ []) ≡ Ok (Int (pos 14))
sum_14 = ap (λ (o : Option (List Value)). or_else (of_part (sum_from (Ok (Int (pos 0)))) o) (Err TypeMismatch)) (ap items_in (out_tuple four))

pub summed : loop.Summed
summed =
    means (static_run [] (one_name (codes "Main")) (top (codes "Main")) refl refl refl refl
    (post (function_named refl refl refl refl refl)
    (call_over refl (post (function_named refl refl refl refl refl) (call (more lit none) (call_of_function range_4) trail_end))
    (gen_more (product _ (local refl) (times _ _ (joined_more _ _ (local refl) refl joined_end)))
    (gen_more (product _ (local refl) (times _ _ (joined_more _ _ (local refl) refl joined_end)))
    (gen_more (product _ (local refl) (times _ _ (joined_more _ _ (local refl) refl joined_end)))
    (gen_more (product _ (local refl) (times _ _ (joined_more _ _ (local refl) refl joined_end))) gen_end))))
    (ints_allowed (pos 0 ∷ pos 1 ∷ pos 4 ∷ pos 9 ∷ [])) (call_of_function sum_14) trail_end)) refl)

-- ---- any

f_gives : (j : ℕ) → Means (model_of loop.deciding) (loop.at_whole row.f j) (Gives (row.whole j))
f_gives j = means (static_run (Int (pos j) ∷ []) (one_name (codes "Main")) (top (codes "Main")) refl refl refl (one_bound further.n (pos j)) (local refl) refl)

abbrev deciding_env : Env
deciding_env = line_env (row.cell further.main row.d) (child (codes "Main") root) []

f_called : (j : ℕ) → Comes loop.deciding (within loop.i (Int (pos j)) deciding_env) (further.call_of row.f (expr.Name loop.i ∷ [])) (loop.f_events j) (Int (pos j))
f_called j =
    post (name_sought refl (in_source found.CellsHere refl refl cells_here)) (call (more (local refl) none) (call_of_cells (top (codes "Main")) refl (one_plain (pos j)) refl (one_bound further.n (pos j)) (f_gives j)) trail_end)

decided_run : RunsTo loop.deciding (row.cell further.main row.d) loop.decided_events (Gives (record { value = Flag true; namespace = None }))
decided_run =
    static_run [] (one_name (codes "Main")) (top (codes "Main")) refl refl refl refl
    (post (function_named refl refl refl refl refl)
    (any_over refl (post (function_named refl refl refl refl refl) (call (more lit none) (call_of_function range_3) trail_end))
    (decides_later (f_called 0) (ap truth_in (out_int (pos 0))) (decides_here (f_called 1) (ap truth_in (out_int (pos 1))))) trail_end)) refl

pub decided_early : loop.DecidedEarly
decided_early = decided_run.leads

-- ---- faults

dividing_g : Means (model_of loop.dividing) (loop.at_whole further.g 4) (Gives (row.whole 4))
dividing_g = means (static_run (Int (pos 4) ∷ []) (one_name (codes "Main")) (top (codes "Main")) refl refl refl (one_bound further.n (pos 4)) (local refl) refl)

abbrev quotient : Expr
quotient = expr.Product (expr.Name row.x) (roll-ProductPart (record { op = products.Over; of = loop.whole_lit 0 }) ∷ [])

dividing_unset : unset_locals loop.dividing_body ≡ (row.x, None) ∷ []
dividing_unset =
    ap (λ (names : List Label). as_locals (names ++ (bound_by (stmt.Return (Some quotient)) ++ []))) (bound-assign row.x (further.call_of further.g (expr.Name further.n ∷ [])))
    ∙ ap (λ (names : List Label). as_locals ((row.x ∷ []) ++ (names ++ []))) (bound-return (Some quotient))

pub by_zero : of_two (multiplying products.Over) (Int (pos 4)) (Int (pos 0)) ≡ Err ZeroDivision
unfolding fixed_div
by_zero = refl

pub fault_at_line_3 : loop.FaultAtLine3
fault_at_line_3 =
    body_fault (Int (pos 4) ∷ []) ((row.x, None) ∷ []) (one_name (codes "Main")) (top (codes "Main")) refl refl refl (one_bound further.n (pos 4)) dividing_unset
    (then_stops (assign_goes (post (name_sought refl (in_source found.CellsHere refl refl cells_here)) (call (more (local refl) none) (call_of_cells (top (codes "Main")) refl (one_plain (pos 4)) refl (one_bound further.n (pos 4)) dividing_g) trail_end)))
    (height-assign row.x (further.call_of further.g (expr.Name further.n ∷ []))) (return_stops (product_fault products.Over (loop.whole_lit 0) [] (local refl) lit by_zero)))

-- ---- None

abbrev none_node : Node
none_node = row.cell further.main row.c

pub none_is_a_fault : loop.NoneIsAFault
none_is_a_fault =
    let back : Returned → Run = cells_returned false none_node in
    let env : Env = line_env none_node (child (codes "Main") root) [] in
    let w = top {look = loop.giving_none false} (codes "Main") in
    let p : Comes (loop.giving_none false) env (expr.Lit Nothing) [] Nothing = lit in
    finished (model_of (loop.giving_none false)) none_node (Looked (key.Input none_node) ∷ Looked (key.Cells row.space_main row.c) ∷ []) (Faults NoneReturned none_node 1) tt
    (static_lead (loop.giving_none false) (child (codes "Main") root) row.c [] (one_line (expr.Lit Nothing)) false [] [] [] (Ends (Faults NoneReturned none_node 1)) w refl refl refl
    (line_leads (loop.giving_none false) none_node (child (codes "Main") root) [] (expr.Lit Nothing) back [] (Ends (Faults NoneReturned none_node 1)) (p.leads (λ c. as_value c env (λ x. back (Plain x)))))
    (one_name (codes "Main")) refl)

pub none_is_allowed : loop.NoneIsAllowed
none_is_allowed = means (static_run [] (one_name (codes "Main")) (top (codes "Main")) refl refl refl refl lit refl)

-- ---- a base that is no space

pub bad_base : loop.BadBase
bad_base =
    let ns : Namespace = child (codes "S") root in
    let args : List Value = Int (pos 4) ∷ [] in
    let given : Overlay = (row.k, Int (pos 4)) ∷ [] in
    let entries = entry.Base (loop.whole_lit 3) ∷ [] in
    let back : Returned → Run = item_returned loop.s_at_4 ns args given in
    let d : DisplayComes loop.bad_base (line_env loop.s_at_4 ns given) entries [] None [] [] (Some (Int (pos 3))) = display_base lit display_end in
    let ends_so : back (Display [] (Some (Int (pos 3)))) ≡ Ends (Faults BadItem loop.s_at_4 1) =
    ap (λ (content : Content). source_or_fault (path_in content) loop.s_at_4 (item_given ns args ((row.k, Int (pos 4)) ∷ []))) (out_int (pos 3)) in
    finished (model_of loop.bad_base) loop.s_at_4 (Looked (key.Params row.space_s) ∷ []) (Faults BadItem loop.s_at_4 1) tt
    (item_leads loop.bad_base ns _ args (ends (codes "S")) refl refl (one_bound row.k (pos 4)) (small (codes "S") (pos 4)) [] [] (Ends (Faults BadItem loop.s_at_4 1)) (top (codes "S"))
    (from loop.bad_base _ (displayed_from entries [] None (line_env loop.s_at_4 ns given) back) (Ends (Faults BadItem loop.s_at_4 1)) [] (display_done loop.s_at_4 ns given entries back)
    (subst (λ r. Leads (model_of loop.bad_base) (displayed_from entries [] None (line_env loop.s_at_4 ns given) back) [] r) ends_so (d.leads back))))

-- ---- nodes that are not there

walk_item : (name : Label) (args : List Value) (go : Namespace → Run) → walked (segment.Name name ∷ segment.Item args ∷ []) go ≡ Tests (key.Params (name ∷ [])) (item_entered (child name root) args go)
walk_item name args go =
    ap (λ (s : Step). stepped s root (λ next. walked_from (segment.Item args ∷ []) next go)) (out_name name)
    ∙ ap (λ (s : Step). stepped s (child name root) go) (out_item args)
    ∙ ap (λ (b : Bool). if b then Tests (key.Params (name ∷ [])) (item_entered (child name root) args go) else Ends NoSuch) (ends name)

-- what a binding of cells does behind the walk
abbrev onward : Label → (Node → Run) → Namespace → Run
onward name go ns = Tests (key.Cells ns.source name) (cell_bound ns name [] go)

pub no_such_item : loop.NoSuchItem
no_such_item go =
    let next : Run = Tests (key.Params row.space_a) (item_entered (child (codes "A") root) (Int (pos 1) ∷ []) (onward row.f go)) in
    let l : Leads (model_of row.inheriting) next (Tested (key.Params row.space_a) ∷ []) (Ends NoSuch) = (refl, refl) in
    from row.inheriting _ next (Ends NoSuch) (Tested (key.Params row.space_a) ∷ []) (walk_item (codes "A") (Int (pos 1) ∷ []) (onward row.f go)) l

pub wrong_item_count : loop.WrongItemCount
wrong_item_count go =
    let next : Run = Tests (key.Params row.space_s) (item_entered (child (codes "S") root) (Int (pos 1) ∷ Int (pos 2) ∷ []) (onward row.c go)) in
    let l : Leads (model_of row.hiding) next (Tested (key.Params row.space_s) ∷ []) (Ends WrongCount) = (refl, refl) in
    from row.hiding _ next (Ends WrongCount) (Tested (key.Params row.space_s) ∷ []) (walk_item (codes "S") (Int (pos 1) ∷ Int (pos 2) ∷ []) (onward row.c go)) l
