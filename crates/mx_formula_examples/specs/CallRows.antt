-- Worked examples of calls, of names of the model and inputs, of generators, and of faults inside an expression.
use Rattle.std.specs.Prelude.{ℕ, pos, List, [], ◌∷◌, ◌++◌, None, Some, false, codes, if◌then◌else◌}
use Rattle.mx_value.specs.Name.{same_name}
use Rattle.mx_value.specs.declared.value.Value.TheVariants.{Nothing, Int, Flag}
use Rattle.mx_value.specs.declared.node.Node.{Node}
use Rattle.mx_value.specs.declared.node.Node.TheVariants.{Cell}
use Rattle.mx_value.specs.declared.read.Read.TheVariants as read
use Rattle.mx_value.specs.declared.fault.FaultKind.TheVariants.{TypeMismatch, NotCallable, WrongCountInside, TooLarge}
use Rattle.mx_syntax.specs.declared.expr.Expr.{Expr}
use Rattle.mx_syntax.specs.declared.expr.Expr.TheVariants.{Lit, Name, Compare, Sum, Post}
use Rattle.mx_syntax.specs.declared.expr.Comparison.TheVariants as comparison
use Rattle.mx_syntax.specs.declared.expr.CmpOp.TheVariants.{Lt}
use Rattle.mx_syntax.specs.declared.expr.SumPart.{roll-SumPart}
use Rattle.mx_syntax.specs.declared.expr.SumOp.{SumOp}
use Rattle.mx_syntax.specs.declared.expr.SumOp.TheVariants as sums
use Rattle.mx_syntax.specs.declared.expr.Trailer.TheVariants as trailer
use Rattle.mx_syntax.specs.declared.expr.Args.TheVariants as arguments
use Rattle.mx_syntax.specs.declared.stmt.Stmt.TheVariants.{Return, ReturnItem}
use Rattle.mx_syntax.specs.declared.stmt.Param.{Param}
use Rattle.mx_syntax.specs.declared.stmt.ItemEntry.TheVariants as entry
use Rattle.mx_edit.specs.declared.reference.RefValue.TheVariants as reference
use Rattle.mx_edit.specs.declared.key.Key.{Key}
use Rattle.mx_edit.specs.declared.key.Key.TheVariants as key
use Rattle.mx_edit.specs.declared.key.KeyResult.{KeyResult}
use Rattle.mx_edit.specs.declared.key.KeyResult.TheVariants as found
use Rattle.mx_runs.specs.Runs.{Ends, Gives, Faults, Event, Looked, Asked, Noted}
use Rattle.mx_runs.specs.Meaning.{Means, Leads}
use Rattle.mx_meaning.specs.Nodes.{body}
use Rattle.mx_meaning.specs.Laws.{model_of}
use Rattle.mx_formula_examples.specs.Rows.{look_in, cells_of, cells_named, whole_reference, space_s, space_main, cell, whole, s_item, c, d, f, k, rate, x}
use Rattle.mx_formula_examples.specs.FurtherRows.{cells_over_n, call_of, main, n}
use Rattle.mx_formula_examples.specs.LoopRows.{main_cells, range_to, call_over, whole_lit, at_whole, function_events, i}

abbrev pub c_node : Node
c_node = cell main c

abbrev pub joined : Expr → SumOp → Expr → Expr
joined first op e = Sum first (roll-SumPart (record { op = op; of = e }) ∷ [])

-- ---- a default: f(n, k=7) = n + k, c() = f(1)

abbrev pub n_and_k : List Param
n_and_k = record { name = n; default = None } ∷ record { name = k; default = Some (Int (pos 7)) } ∷ []

abbrev pub defaulting : Key → KeyResult
defaulting = main_cells (cells_named space_main f ∷ [])
    (record { path = space_main; name = f; is = found.Formula (record { params = n_and_k; body = Return (Some (joined (Name n) sums.Plus (Name k))) ∷ [] }) false } ∷ cells_of space_main c (call_of f (whole_lit 1 ∷ [])) ∷ [])

abbrev pub default_events : List Event
default_events = Looked (key.Input c_node) ∷ Looked (key.Cells space_main c) ∷ Looked (key.Name space_main f) ∷ Looked (key.Cells space_main f) ∷ Asked (Cell main f (Int (pos 1) ∷ Int (pos 7) ∷ [])) (whole 8) ∷ []

-- c() asks f(1, 7), which gives 8
abbrev pub DefaultArgument : Type 0
DefaultArgument = Leads (model_of defaulting) (body c_node) default_events (Ends (Gives (whole 8)))

-- ---- a reference of the model: global rate = 5, c() = rate

abbrev pub with_global : Key → KeyResult
with_global (key.Global name) = if same_name name rate then found.Ref (reference.Plain (Int (pos 5))) [] else found.Missing
with_global other = main_cells [] (cells_of space_main c (Name rate) ∷ []) other

abbrev pub global_events : List Event
global_events = Looked (key.Input c_node) ∷ Looked (key.Cells space_main c) ∷ Looked (key.Name space_main rate) ∷ Looked (key.Global rate) ∷ Noted (read.Global rate) ∷ []

-- c() gives 5; the space of the formula is looked in first, and the reference of the model counts as read
abbrev pub GlobalReference : Type 0
GlobalReference = Leads (model_of with_global) (body c_node) global_events (Ends (Gives (whole 5)))

-- ---- an input: c() = 1, d() = c(), and 9 is put in for c()

abbrev pub with_input : Key → KeyResult
with_input (key.Input (Cell at name [])) = if same_name name c then found.Value (Int (pos 9)) else found.Missing
with_input other = main_cells (cells_named space_main c ∷ []) (cells_of space_main c (whole_lit 1) ∷ cells_of space_main d (call_of c []) ∷ []) other

-- c() gives 9, and its formula isn't run
abbrev pub InputGiven : Type 0
InputGiven = Leads (model_of with_input) (body c_node) (Looked (key.Input c_node) ∷ []) (Ends (Gives (whole 9)))

abbrev pub input_events : List Event
input_events = Looked (key.Input (cell main d)) ∷ Looked (key.Cells space_main d) ∷ Looked (key.Name space_main c) ∷ Looked (key.Cells space_main c) ∷ Asked c_node (whole 9) ∷ []

-- d() asks c(), which gives 9
abbrev pub InputAsked : Type 0
InputAsked = Leads (model_of with_input) (body (cell main d)) input_events (Ends (Gives (whole 9)))

-- ---- a generator's test: c() = sum(i for i in range(4) if 1 < i)

abbrev pub above_1 : Expr
above_1 = Compare (whole_lit 1) (comparison.Op Lt (Name i) ∷ [])

abbrev pub passing : Key → KeyResult
passing = main_cells [] (cells_of space_main c (Post (Name (codes "sum")) (trailer.Call (arguments.Gen (Name i) i (range_to (whole_lit 4)) (Some above_1)) ∷ [])) ∷ [])

-- c() means 5, the sum of 2 and 3
abbrev pub GeneratorTest : Type 0
GeneratorTest = Means (model_of passing) c_node (Gives (whole 5))

-- ---- a generator's scope: f(n) = sum(n for n in range(n)) + n

abbrev pub scoping : Key → KeyResult
scoping = main_cells [] (cells_over_n space_main f (joined (call_over (codes "sum") (Name n) n (range_to (Name n))) sums.Plus (Name n)) ∷ [])

-- f(3) means 6: the name of the generator hides the parameter within it alone, and not in what it goes over
abbrev pub GeneratorScope : Type 0
GeneratorScope = Means (model_of scoping) (at_whole f 3) (Gives (whole 6))

-- ---- all: f(n) = 1 - n, c() = all(f(i) for i in range(3))

abbrev pub all_deciding : Key → KeyResult
all_deciding = main_cells (cells_named space_main f ∷ []) (cells_over_n space_main f (joined (whole_lit 1) sums.Minus (Name n)) ∷ cells_of space_main c (call_over (codes "all") (call_of f (Name i ∷ [])) i (range_to (whole_lit 3))) ∷ [])

-- what a call of f does, which gives 1 at 0 and 0 at 1
abbrev pub f_gives : ℕ → ℕ → List Event
f_gives j result = Looked (key.Name space_main f) ∷ Looked (key.Cells space_main f) ∷ Asked (at_whole f j) (whole result) ∷ []

abbrev pub all_events : List Event
all_events = Looked (key.Input c_node) ∷ Looked (key.Cells space_main c) ∷ function_events (codes "all") ++ (function_events (codes "range") ++ (f_gives 0 1 ++ f_gives 1 0))

-- c() asks f(0) and f(1), which decides, and not f(2)
abbrev pub AllEndsEarly : Type 0
AllEndsEarly = Leads (model_of all_deciding) (body c_node) all_events (Ends (Gives (record { value = Flag false; namespace = None })))

-- ---- faults of c() of one line, beside ref Main.x = 3 and f(n) = n

abbrev pub faulting : Expr → Key → KeyResult
faulting e = main_cells (whole_reference space_main x 3 ∷ cells_named space_main f ∷ []) (cells_over_n space_main f (Name n) ∷ cells_of space_main c e ∷ [])

-- c() = 1 + None
abbrev pub NoSum : Type 0
NoSum = Means (model_of (faulting (joined (whole_lit 1) sums.Plus (Lit Nothing)))) c_node (Faults TypeMismatch c_node 1)

-- c() = f(f): cells are no plain argument
abbrev pub NotPlain : Type 0
NotPlain = Means (model_of (faulting (call_of f (Name f ∷ [])))) c_node (Faults TypeMismatch c_node 1)

-- c() = x()
abbrev pub NotCalled : Type 0
NotCalled = Means (model_of (faulting (call_of x []))) c_node (Faults NotCallable c_node 1)

-- c() = f(1, 2): the fault is that of c()
abbrev pub TooManyInside : Type 0
TooManyInside = Means (model_of (faulting (call_of f (whole_lit 1 ∷ whole_lit 2 ∷ [])))) c_node (Faults WrongCountInside c_node 1)

-- c() = f()
abbrev pub TooFewInside : Type 0
TooFewInside = Means (model_of (faulting (call_of f []))) c_node (Faults WrongCountInside c_node 1)

-- c() = range(1000000): the tuple would have a size of 1,000,001
abbrev pub RangeTooLarge : Type 0
RangeTooLarge = Means (model_of (faulting (range_to (whole_lit 1_000_000)))) c_node (Faults TooLarge c_node 1)

-- ---- a display replaces a parameter: params S(k) = {"refs": {"k": k + 1}}, cells S.c() = k

abbrev pub replacing : Key → KeyResult
replacing = look_in (record {
  names = [];
  cells = cells_of space_s c (Name k) ∷ [];
  params = (space_s, record { params = record { name = k; default = None } ∷ []; body = Some (ReturnItem (entry.Refs ((k, joined (Name k) sums.Plus (whole_lit 1)) ∷ []) ∷ []) ∷ []) }) ∷ [];
  paths = space_s ∷ [];
  tables = [];
})

-- S[4].c() means 5
abbrev pub ParameterReplaced : Type 0
ParameterReplaced = Means (model_of replacing) (cell (s_item 4) c) (Gives (whole 5))
