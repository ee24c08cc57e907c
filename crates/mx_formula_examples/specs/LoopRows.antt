-- Worked examples of statements, loops and generators, of faults with their lines, and of nodes that are not there.
use Rattle.std.specs.Prelude.{ℕ, pos, List, [], ◌∷◌, ◌++◌, Some, None, Bool, true, false, codes}
use Rattle.mx_value.specs.declared.label.Label.{Label}
use Rattle.mx_value.specs.declared.value.Value.TheVariants.{Nothing, Int, Flag}
use Rattle.mx_value.specs.declared.value.Segment.TheVariants as segment
use Rattle.mx_value.specs.declared.node.Node.{Node}
use Rattle.mx_value.specs.declared.node.Node.TheVariants.{Cell, Item}
use Rattle.mx_value.specs.declared.fault.FaultKind.TheVariants.{ZeroDivision, NoneReturned, BadItem}
use Rattle.mx_syntax.specs.declared.expr.Expr.{Expr}
use Rattle.mx_syntax.specs.declared.expr.Expr.TheVariants.{Lit, Name, Product, Post}
use Rattle.mx_syntax.specs.declared.expr.ProductPart.{roll-ProductPart}
use Rattle.mx_syntax.specs.declared.expr.ProductOp.TheVariants as products
use Rattle.mx_syntax.specs.declared.expr.Trailer.TheVariants as trailer
use Rattle.mx_syntax.specs.declared.expr.Args.TheVariants as arguments
use Rattle.mx_syntax.specs.declared.stmt.Stmt.{Stmt}
use Rattle.mx_syntax.specs.declared.stmt.Stmt.TheVariants.{Return, ReturnItem, Assign, Change, For}
use Rattle.mx_syntax.specs.declared.stmt.ArithOp.TheVariants as arithmetic
use Rattle.mx_syntax.specs.declared.stmt.ItemEntry.TheVariants as entry
use Rattle.mx_edit.specs.declared.key.Key.{Key}
use Rattle.mx_edit.specs.declared.key.Key.TheVariants as key
use Rattle.mx_edit.specs.declared.key.KeyResult.{KeyResult}
use Rattle.mx_edit.specs.declared.key.KeyResult.TheVariants as found
use Rattle.mx_runs.specs.Runs.{Run, Ends, Gives, Faults, NoSuch, WrongCount, Event, Looked, Tested, Asked}
use Rattle.mx_runs.specs.Meaning.{Means, Leads}
use Rattle.mx_meaning.specs.Binding.{binding}
use Rattle.mx_meaning.specs.Nodes.{body}
use Rattle.mx_meaning.specs.Laws.{model_of}
use Rattle.mx_formula_examples.specs.Rows.{Member, look_in, cells_of, cells_named, space_a, space_s, space_main, named, item, cell, whole, hiding, inheriting, c, d, f, k, t, x}
use Rattle.mx_formula_examples.specs.FurtherRows.{cells_over_n, call_of, main, g, n}

abbrev pub h : Label
h = codes "h"

abbrev pub i : Label
i = codes "i"

abbrev pub s : Label
s = codes "s"

-- a text of cells of Main alone
abbrev pub main_cells : List Member → List Member → Key → KeyResult
main_cells names cells = look_in (record { names = names; cells = cells; params = []; paths = space_main ∷ []; tables = [] })

abbrev pub range_to : Expr → Expr
range_to e = call_of (codes "range") (e ∷ [])

-- a call of a name over a generator
abbrev pub call_over : Label → Expr → Label → Expr → Expr
call_over name element over_name over = Post (Name name) (trailer.Call (arguments.Gen element over_name over None) ∷ [])

abbrev pub whole_lit : ℕ → Expr
whole_lit j = Lit (Int (pos j))

-- the node of these cells of Main at a whole number
abbrev pub at_whole : Label → ℕ → Node
at_whole name j = Cell main name (Int (pos j) ∷ [])

-- ---- a loop: def h(n): s = 0, then for i in range(n): s += i, then return s

abbrev pub loop_body : List Stmt
loop_body = Assign s (whole_lit 0) ∷ For i (range_to (Name n)) (Change s arithmetic.Add (Name i) ∷ []) ∷ Return (Some (Name s)) ∷ []

abbrev pub looping : Key → KeyResult
looping = main_cells [] (record { path = space_main; name = h; is = found.Formula (record { params = record { name = n; default = None } ∷ []; body = loop_body }) false } ∷ [])

-- h(3) means 3
abbrev pub Looped : Type 0
Looped = Means (model_of looping) (at_whole h 3) (Gives (whole 3))

-- ---- a generator: t() = sum(x * x for x in range(4))

abbrev pub squares : Expr
squares = call_over (codes "sum") (Product (Name x) (roll-ProductPart (record { op = products.Times; of = Name x }) ∷ [])) x (range_to (whole_lit 4))

abbrev pub summing : Key → KeyResult
summing = main_cells [] (cells_of space_main t squares ∷ [])

-- t() means 14
abbrev pub Summed : Type 0
Summed = Means (model_of summing) (cell main t) (Gives (whole 14))

-- ---- any: f(n) = n, d() = any(f(i) for i in range(3))

abbrev pub deciding : Key → KeyResult
deciding = main_cells (cells_named space_main f ∷ []) (cells_over_n space_main f (Name n) ∷ cells_of space_main d (call_over (codes "any") (call_of f (Name i ∷ [])) i (range_to (whole_lit 3))) ∷ [])

-- what a call of f does
abbrev pub f_events : ℕ → List Event
f_events j = Looked (key.Name space_main f) ∷ Looked (key.Cells space_main f) ∷ Asked (at_whole f j) (whole j) ∷ []

abbrev pub function_events : Label → List Event
function_events name = Looked (key.Name space_main name) ∷ Looked (key.Global name) ∷ []

-- d() asks f(0) and f(1), which decides, and not f(2)
abbrev pub decided_events : List Event
decided_events = Looked (key.Input (cell main d)) ∷ Looked (key.Cells space_main d) ∷ function_events (codes "any") ++ (function_events (codes "range") ++ (f_events 0 ++ f_events 1))

abbrev pub DecidedEarly : Type 0
DecidedEarly = Leads (model_of deciding) (body (cell main d)) decided_events (Ends (Gives (record { value = Flag true; namespace = None })))

-- ---- a fault has its line: def f(n): x = g(n), then return x / 0; g(n) = n

abbrev pub dividing_body : List Stmt
dividing_body = Assign x (call_of g (Name n ∷ [])) ∷ Return (Some (Product (Name x) (roll-ProductPart (record { op = products.Over; of = whole_lit 0 }) ∷ []))) ∷ []

abbrev pub dividing : Key → KeyResult
dividing = main_cells (cells_named space_main g ∷ []) (record { path = space_main; name = f; is = found.Formula (record { params = record { name = n; default = None } ∷ []; body = dividing_body }) false } ∷ cells_over_n space_main g (Name n) ∷ [])

-- f(4) divides by 0 at its third line
abbrev pub FaultAtLine3 : Type 0
FaultAtLine3 = Means (model_of dividing) (at_whole f 4) (Faults ZeroDivision (at_whole f 4) 3)

-- ---- None: c() = None, where it is allowed and where not

abbrev pub giving_none : Bool → Key → KeyResult
giving_none allow = main_cells [] (record { path = space_main; name = c; is = found.Formula (record { params = []; body = Return (Some (Lit Nothing)) ∷ [] }) allow } ∷ [])

abbrev pub NoneIsAFault : Type 0
NoneIsAFault = Means (model_of (giving_none false)) (cell main c) (Faults NoneReturned (cell main c) 1)

abbrev pub NoneIsAllowed : Type 0
NoneIsAllowed = Means (model_of (giving_none true)) (cell main c) (Gives (record { value = Nothing; namespace = None }))

-- ---- a base that is no space: params S(k) = {"base": 3}

abbrev pub bad_base : Key → KeyResult
bad_base = look_in (record {
  names = [];
  cells = [];
  params = (space_s, record { params = record { name = k; default = None } ∷ []; body = Some (ReturnItem (entry.Base (whole_lit 3) ∷ []) ∷ []) }) ∷ [];
  paths = space_s ∷ [];
  tables = [];
})

abbrev pub s_at_4 : Node
s_at_4 = Item (named (codes "S") ∷ []) (Int (pos 4) ∷ [])

abbrev pub BadBase : Type 0
BadBase = Means (model_of bad_base) s_at_4 (Faults BadItem s_at_4 1)

-- ---- nodes that are not there: A has no parameters, S has one

-- A[1].f() is no such node, and nothing is asked
abbrev pub NoSuchItem : Type 0
NoSuchItem = (go : Node → Run) → Leads (model_of inheriting) (binding (cell (named (codes "A") ∷ item 1 ∷ []) f) go) (Tested (key.Params space_a) ∷ []) (Ends NoSuch)

-- S[1, 2].c() has a wrong count of arguments, and nothing is asked
abbrev pub WrongItemCount : Type 0
WrongItemCount = (go : Node → Run) → Leads (model_of hiding) (binding (cell (named (codes "S") ∷ segment.Item (Int (pos 1) ∷ Int (pos 2) ∷ []) ∷ []) c) go) (Tested (key.Params space_s) ∷ []) (Ends WrongCount)
