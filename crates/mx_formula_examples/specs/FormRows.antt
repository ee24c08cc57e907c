-- Worked examples of single forms: operators, chains of comparisons, tuples, and statements with the lines of their faults.
use Rattle.std.specs.Prelude.{ℕ, pos, neg_ℤ, List, [], ◌∷◌, ◌++◌, None, Some, true, false}
use Rattle.mx_value.specs.declared.label.Label.{Label}
use Rattle.mx_value.specs.declared.value.Value.{Value}
use Rattle.mx_value.specs.declared.value.Value.TheVariants.{Nothing, Int, Fix, Flag, Tup}
use Rattle.mx_value.specs.declared.fault.FaultKind.TheVariants.{UnsetLocal, ZeroDivision}
use Rattle.mx_syntax.specs.declared.expr.Expr.{Expr}
use Rattle.mx_syntax.specs.declared.expr.Expr.TheVariants.{Lit, Name, Product, Power, Signed, Compare, Or, And, Not, Tuple}
use Rattle.mx_syntax.specs.declared.expr.ProductPart.{roll-ProductPart}
use Rattle.mx_syntax.specs.declared.expr.ProductOp.TheVariants as products
use Rattle.mx_syntax.specs.declared.expr.PowerPart.{PowerPart, roll-PowerPart}
use Rattle.mx_syntax.specs.declared.expr.Sign.{Sign}
use Rattle.mx_syntax.specs.declared.expr.Sign.TheVariants as sign
use Rattle.mx_syntax.specs.declared.expr.Comparison.TheVariants as comparison
use Rattle.mx_syntax.specs.declared.expr.CmpOp.TheVariants.{Lt}
use Rattle.mx_syntax.specs.declared.stmt.Stmt.{Stmt}
use Rattle.mx_syntax.specs.declared.stmt.Stmt.TheVariants.{Pass, Return, Assign, Change, If, For}
use Rattle.mx_syntax.specs.declared.stmt.ArithOp.TheVariants.{Add}
use Rattle.mx_syntax.specs.declared.stmt.IfArm.{IfArm, roll-IfArm}
use Rattle.mx_edit.specs.declared.key.Key.{Key}
use Rattle.mx_edit.specs.declared.key.Key.TheVariants as key
use Rattle.mx_edit.specs.declared.key.KeyResult.{KeyResult}
use Rattle.mx_edit.specs.declared.key.KeyResult.TheVariants as found
use Rattle.mx_runs.specs.Runs.{Ends, Gives, Faults, Event, Looked, Asked}
use Rattle.mx_runs.specs.Meaning.{Means, Leads}
use Rattle.mx_meaning.specs.Nodes.{body}
use Rattle.mx_meaning.specs.Laws.{model_of}
use Rattle.mx_formula_examples.specs.Rows.{cells_of, cells_named, whole_reference, space_main, cell, whole, c, f, x}
use Rattle.mx_formula_examples.specs.FurtherRows.{call_of, main, a, b, n}
use Rattle.mx_formula_examples.specs.LoopRows.{main_cells, range_to, whole_lit, at_whole, i}

-- a() = 1, b() = 2, and c() of this line
abbrev pub with_line : Expr → Key → KeyResult
with_line e = main_cells (cells_named space_main a ∷ cells_named space_main b ∷ []) (cells_of space_main a (whole_lit 1) ∷ cells_of space_main b (whole_lit 2) ∷ cells_of space_main c e ∷ [])

-- c() of this line means this value
abbrev pub LineMeans : Expr → Value → Type 0
LineMeans e v = Means (model_of (with_line e)) (cell main c) (Gives (record { value = v; namespace = None }))

-- the run of c() of this line goes by these events behind its look at its formula, and ends with this value
abbrev pub LineLeads : Expr → List Event → Value → Type 0
LineLeads e es v = Leads (model_of (with_line e)) (body (cell main c)) (Looked (key.Input (cell main c)) ∷ Looked (key.Cells space_main c) ∷ es) (Ends (Gives (record { value = v; namespace = None })))

-- what a call of a() or b(), which gives this number, does
abbrev pub ask_events : Label → ℕ → List Event
ask_events name j = Looked (key.Name space_main name) ∷ Looked (key.Cells space_main name) ∷ Asked (cell main name) (whole j) ∷ []

-- ---- powers and signs

abbrev pub power_part : List Sign → Expr → PowerPart
power_part signs e = roll-PowerPart (record { signs = signs; of = e })

-- 2 ** 3 ** 2 is 2 ** 9
abbrev pub PowersFromRight : Type 0
PowersFromRight = LineMeans (Power (whole_lit 2) (power_part [] (whole_lit 3) ∷ power_part [] (whole_lit 2) ∷ [])) (Int (pos 512))

-- b() ** a() is 2, and b() is asked first
abbrev pub PowerAsksFromLeft : Type 0
PowerAsksFromLeft = LineLeads (Power (call_of b []) (power_part [] (call_of a []) ∷ [])) (ask_events b 2 ++ ask_events a 1) (Int (pos 2))

-- -2 ** 2 is the negative of 2 ** 2
abbrev pub SignOfPower : Type 0
SignOfPower = LineMeans (Signed (sign.Minus ∷ []) (Power (whole_lit 2) (power_part [] (whole_lit 2) ∷ []))) (Int (neg_ℤ (pos 4)))

-- 2 ** -1 ** 2 is 2 ** -1, 0.5: the sign applies to 1 ** 2
abbrev pub SignWithinPower : Type 0
SignWithinPower = LineMeans (Power (whole_lit 2) (power_part (sign.Minus ∷ []) (whole_lit 1) ∷ power_part [] (whole_lit 2) ∷ [])) (Fix (pos 500_000_000))

-- ---- chains of comparisons

-- 1 < 2 < 2 is False, as 2 < 2 is
abbrev pub ChainOfNeighbours : Type 0
ChainOfNeighbours = LineMeans (Compare (whole_lit 1) (comparison.Op Lt (whole_lit 2) ∷ comparison.Op Lt (whole_lit 2) ∷ [])) (Flag false)

abbrev pub short_chain : Expr
short_chain = Compare (whole_lit 2) (comparison.Op Lt (call_of a []) ∷ comparison.Op Lt (call_of b []) ∷ [])

-- 2 < a() < b() asks a() alone, which decides
abbrev pub ChainEndsEarly : Type 0
ChainEndsEarly = LineLeads short_chain (ask_events a 1) (Flag false)

abbrev pub long_chain : Expr
long_chain = Compare (whole_lit 0) (comparison.Op Lt (call_of a []) ∷ comparison.Op Lt (call_of b []) ∷ [])

-- 0 < a() < b() is True, and asks a() once
abbrev pub ChainAsksOnce : Type 0
ChainAsksOnce = LineLeads long_chain (ask_events a 1 ++ ask_events b 2) (Flag true)

-- None is None, and 0 is not None
abbrev pub NoneIsNone : Type 0
NoneIsNone = LineMeans (Compare (Lit Nothing) (comparison.IsNone ∷ [])) (Flag true)

abbrev pub ZeroIsNotNone : Type 0
ZeroIsNotNone = LineMeans (Compare (whole_lit 0) (comparison.IsNotNone ∷ [])) (Flag true)

-- 0 is None is False
abbrev pub ZeroIsNone : Type 0
ZeroIsNone = LineMeans (Compare (whole_lit 0) (comparison.IsNone ∷ [])) (Flag false)

-- ---- `or`, `and` and `not`

abbrev pub or_line : Expr
or_line = Or (whole_lit 0 ∷ call_of b [] ∷ call_of a [] ∷ [])

-- 0 or b() or a() is 2, and a() isn't asked
abbrev pub OrEndsEarly : Type 0
OrEndsEarly = LineLeads or_line (ask_events b 2) (Int (pos 2))

abbrev pub and_line : Expr
and_line = And (call_of a [] ∷ whole_lit 0 ∷ call_of b [] ∷ [])

-- a() and 0 and b() is 0, and b() isn't asked
abbrev pub AndEndsEarly : Type 0
AndEndsEarly = LineLeads and_line (ask_events a 1) (Int (pos 0))

-- False or 0 is 0, the last part
abbrev pub OrGivesLast : Type 0
OrGivesLast = LineMeans (Or (Lit (Flag false) ∷ whole_lit 0 ∷ [])) (Int (pos 0))

-- 1 and 2 is 2, the last part
abbrev pub AndGivesLast : Type 0
AndGivesLast = LineMeans (And (whole_lit 1 ∷ whole_lit 2 ∷ [])) (Int (pos 2))

-- not not 3 is True
abbrev pub DoubleNot : Type 0
DoubleNot = LineMeans (Not 2 (whole_lit 3)) (Flag true)

-- ---- tuples

abbrev pub tuple_line : Expr
tuple_line = Tuple (call_of b [] ∷ call_of a [] ∷ [])

-- (b(), a()) is (2, 1), and b() is asked first
abbrev pub TupleFromLeft : Type 0
TupleFromLeft = LineLeads tuple_line (ask_events b 2 ++ ask_events a 1) (Tup (Int (pos 2) ∷ Int (pos 1) ∷ []))

-- ---- `if`, `elif` and `else`: def f(n): if n < 1: return 10, elif n < 3: return 20, else: return 30

abbrev pub if_arm : Expr → List Stmt → IfArm
if_arm test stmts = roll-IfArm (record { test = test; body = stmts })

abbrev pub give : ℕ → List Stmt
give j = Return (Some (whole_lit j)) ∷ []

abbrev pub n_below : ℕ → Expr
n_below j = Compare (Name n) (comparison.Op Lt (whole_lit j) ∷ [])

-- def f(n) with these statements below its first line
abbrev pub with_body : List Stmt → Key → KeyResult
with_body stmts = main_cells (whole_reference space_main x 5 ∷ []) (record { path = space_main; name = f; is = found.Formula (record { params = record { name = n; default = None } ∷ []; body = stmts }) false } ∷ [])

abbrev pub three_ways : List Stmt
three_ways = If (if_arm (n_below 1) (give 10) ∷ if_arm (n_below 3) (give 20) ∷ []) (Some (give 30)) ∷ []

-- f(0) means 10, f(2) means 20 and f(3) means 30
abbrev pub IfTaken : Type 0
IfTaken = Means (model_of (with_body three_ways)) (at_whole f 0) (Gives (whole 10))

abbrev pub ElifTaken : Type 0
ElifTaken = Means (model_of (with_body three_ways)) (at_whole f 2) (Gives (whole 20))

abbrev pub ElseTaken : Type 0
ElseTaken = Means (model_of (with_body three_ways)) (at_whole f 3) (Gives (whole 30))

-- def f(n): if n < 1: return 10, elif n / 0: return 20
abbrev pub dividing_test : List Stmt
dividing_test = If (if_arm (n_below 1) (give 10) ∷ if_arm (Product (Name n) (roll-ProductPart (record { op = products.Over; of = whole_lit 0 }) ∷ [])) (give 20) ∷ []) None ∷ []

-- f(4) divides by 0 at the line of `elif`
abbrev pub FaultAtElif : Type 0
FaultAtElif = Means (model_of (with_body dividing_test)) (at_whole f 4) (Faults ZeroDivision (at_whole f 4) 4)

-- ---- a local that may not be set: ref Main.x = 5, def f(n): if n: x = 1, and then return x

abbrev pub maybe_set : List Stmt
maybe_set = If (if_arm (Name n) (Assign x (whole_lit 1) ∷ []) ∷ []) None ∷ Return (Some (Name x)) ∷ []

-- f(1) means 1
abbrev pub LocalSet : Type 0
LocalSet = Means (model_of (with_body maybe_set)) (at_whole f 1) (Gives (whole 1))

-- f(0) reads the local before it is set, at its fourth line, and not the reference
abbrev pub LocalUnset : Type 0
LocalUnset = Means (model_of (with_body maybe_set)) (at_whole f 0) (Faults UnsetLocal (at_whole f 0) 4)

-- ---- a change reads the local first: def f(n): x += n / 0, and then return x

abbrev pub changing_first : List Stmt
changing_first = Change x Add (Product (Name n) (roll-ProductPart (record { op = products.Over; of = whole_lit 0 }) ∷ [])) ∷ Return (Some (Name x)) ∷ []

-- f(4) doesn't come to divide by 0
abbrev pub ChangeReadsFirst : Type 0
ChangeReadsFirst = Means (model_of (with_body changing_first)) (at_whole f 4) (Faults UnsetLocal (at_whole f 4) 2)

-- ---- the name of a loop is a local: def f(n): for i in range(n): x = i, and then return i

abbrev pub last_of_loop : List Stmt
last_of_loop = For i (range_to (Name n)) (Assign x (Name i) ∷ []) ∷ Return (Some (Name i)) ∷ []

-- f(3) means 2
abbrev pub LoopNameStays : Type 0
LoopNameStays = Means (model_of (with_body last_of_loop)) (at_whole f 3) (Gives (whole 2))

-- f(0) reads the name, which the loop has not set, at its fourth line
abbrev pub LoopNameUnset : Type 0
LoopNameUnset = Means (model_of (with_body last_of_loop)) (at_whole f 0) (Faults UnsetLocal (at_whole f 0) 4)

-- ---- a body that comes to its end gives None: def f(n): pass, where None is allowed

abbrev pub coming_to_end : Key → KeyResult
coming_to_end = main_cells [] (record { path = space_main; name = f; is = found.Formula (record { params = record { name = n; default = None } ∷ []; body = Pass ∷ [] }) true } ∷ [])

abbrev pub EndGivesNone : Type 0
EndGivesNone = Means (model_of coming_to_end) (at_whole f 1) (Gives (record { value = Nothing; namespace = None }))
