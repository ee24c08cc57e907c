-- Worked examples: small texts, given by what their keys lead to, and what some of their nodes mean.
use Rattle.std.specs.Prelude.{ℕ, pos, List, [], ◌∷◌, Some, None, Bool, true, false, ◌&&◌, if◌then◌else◌, codes}
use Rattle.std.specs.List.{list_any}
use Rattle.mx_value.specs.Name.{same_name, same_path}
use Rattle.mx_value.specs.declared.label.Label.{Label}
use Rattle.mx_value.specs.declared.value.Value.TheVariants.{Int, Fix, Text, Space}
use Rattle.mx_value.specs.declared.value.Segment.{Segment}
use Rattle.mx_value.specs.declared.value.Segment.TheVariants as segment
use Rattle.mx_value.specs.declared.node.Node.{Node}
use Rattle.mx_value.specs.declared.node.Node.TheVariants.{Cell, Item}
use Rattle.mx_value.specs.declared.read.Read.TheVariants as read
use Rattle.mx_syntax.specs.declared.expr.Expr.{Expr}
use Rattle.mx_syntax.specs.declared.expr.Expr.TheVariants.{Lit, Name, Sum, Product, Post}
use Rattle.mx_syntax.specs.declared.expr.SumPart.{roll-SumPart}
use Rattle.mx_syntax.specs.declared.expr.SumOp.TheVariants as sums
use Rattle.mx_syntax.specs.declared.expr.ProductPart.{roll-ProductPart}
use Rattle.mx_syntax.specs.declared.expr.ProductOp.TheVariants as products
use Rattle.mx_syntax.specs.declared.expr.Trailer.TheVariants as trailer
use Rattle.mx_syntax.specs.declared.expr.Args.TheVariants as arguments
use Rattle.mx_syntax.specs.declared.stmt.Stmt.TheVariants.{Return, ReturnItem}
use Rattle.mx_syntax.specs.declared.stmt.ItemEntry.TheVariants as entry
use Rattle.mx_syntax.specs.declared.stmt.Params.{Params}
use Rattle.mx_edit.specs.Rows.{TableRows}
use Rattle.mx_edit.specs.declared.reference.RefValue.TheVariants as reference
use Rattle.mx_edit.specs.declared.key.Key.{Key}
use Rattle.mx_edit.specs.declared.key.Key.TheVariants as key
use Rattle.mx_edit.specs.declared.key.KeyResult.{KeyResult}
use Rattle.mx_edit.specs.declared.key.KeyResult.TheVariants as found
use Rattle.mx_edit.specs.declared.reply.Reply.{Reply}
use Rattle.mx_runs.specs.Runs.{Ends, Gives, Event, Looked, Tested, Asked, Noted}
use Rattle.mx_runs.specs.Meaning.{Means, Leads}
use Rattle.mx_meaning.specs.Nodes.{body}
use Rattle.mx_meaning.specs.Laws.{model_of}

-- ---- small texts

-- what a path binds to a name, or has under it
pub record Member : Type 0 where
  pub path : List Label
  pub name : Label
  pub is : KeyResult

-- a text by its names, its cells, its paths with parameters, its paths and its tables
pub record Entries : Type 0 where
  pub names : List Member
  pub cells : List Member
  pub params : List (List Label × Params)
  pub paths : List (List Label)
  pub tables : List (Label × TableRows)

abbrev pub member : List Member → List Label → Label → KeyResult
member [] path name = found.Missing
member (m ∷ ms) path name = if same_path path m.path && same_name name m.name then m.is else member ms path name

abbrev pub params_at : List (List Label × Params) → List Label → KeyResult
params_at [] path = found.Missing
params_at (p ∷ ps) path = if same_path path p.0 then found.Params p.1 else params_at ps path

abbrev pub table_at : List (Label × TableRows) → Label → KeyResult
table_at [] name = found.Missing
table_at (t ∷ ts) name = if same_name name t.0 then found.Table t.1 else table_at ts name

-- what the keys of such a text lead to; it has no references of the model and no inputs
abbrev pub look_in : Entries → Key → KeyResult
look_in t (key.Name path name) = member t.names path name
look_in t (key.Global name) = found.Missing
look_in t (key.Cells path name) = member t.cells path name
look_in t (key.Params path) = params_at t.params path
look_in t (key.Exists path) = if list_any (same_path path) t.paths then found.There else found.Missing
look_in t (key.Input n) = found.Missing
look_in t (key.Table name) = table_at t.tables name

-- cells without parameters, of one line
abbrev pub cells_of : List Label → Label → Expr → Member
cells_of path name e = record { path = path; name = name; is = found.Formula (record { params = []; body = Return (Some e) ∷ [] }) false }

abbrev pub cells_named : List Label → Label → Member
cells_named path name = record { path = path; name = name; is = found.CellsHere }

-- a reference that the space of this path defines
abbrev pub whole_reference : List Label → Label → ℕ → Member
whole_reference path name k = record { path = path; name = name; is = found.Ref (reference.Plain (Int (pos k))) path }

abbrev pub table_reference : List Label → Label → Label → Member
table_reference path name table = record { path = path; name = name; is = found.Ref (reference.Table table) path }

abbrev pub target_reference : List Label → Label → List Label → Bool → Member
target_reference path name target fixed = record { path = path; name = name; is = found.Ref (reference.Target target fixed) path }

-- one parameter, and no parameter formula
abbrev pub one_param : Label → Params
one_param name = record { params = record { name = name; default = None } ∷ []; body = None }

-- ---- names, nodes and replies

abbrev pub x : Label
x = codes "x"

abbrev pub c : Label
c = codes "c"

abbrev pub d : Label
d = codes "d"

abbrev pub f : Label
f = codes "f"

abbrev pub k : Label
k = codes "k"

abbrev pub m : Label
m = codes "m"

abbrev pub p : Label
p = codes "p"

abbrev pub t : Label
t = codes "t"

abbrev pub u : Label
u = codes "u"

abbrev pub v : Label
v = codes "v"

abbrev pub w : Label
w = codes "w"

abbrev pub z : Label
z = codes "z"

abbrev pub rate : Label
rate = codes "rate"

abbrev pub space_a : List Label
space_a = codes "A" ∷ []

abbrev pub space_b : List Label
space_b = codes "B" ∷ []

abbrev pub space_p : List Label
space_p = codes "P" ∷ []

abbrev pub space_s : List Label
space_s = codes "S" ∷ []

-- the child T of S
abbrev pub space_st : List Label
space_st = codes "S" ∷ codes "T" ∷ []

abbrev pub space_main : List Label
space_main = codes "Main" ∷ []

abbrev pub named : Label → Segment
named name = segment.Name name

-- the item of a whole number
abbrev pub item : ℕ → Segment
item i = segment.Item (Int (pos i) ∷ [])

-- a node of cells without parameters
abbrev pub cell : List Segment → Label → Node
cell at name = Cell at name []

abbrev pub whole : ℕ → Reply
whole i = record { value = Int (pos i); namespace = None }

-- a call without arguments of the cells of a name in the space that a name stands for
abbrev pub call_through : Label → Label → Expr
call_through space name = Post (Name space) (trailer.Attr name ∷ trailer.Call (arguments.List []) ∷ [])

-- ---- a parameter of an item hides a reference: ref S.x = 1, params S(x), cells S.c() = x

abbrev pub hiding : Key → KeyResult
hiding = look_in (record {
  names = whole_reference space_s x 1 ∷ [];
  cells = cells_of space_s c (Name x) ∷ [];
  params = (space_s, one_param x) ∷ [];
  paths = space_s ∷ [];
  tables = [];
})

abbrev pub s_item : ℕ → List Segment
s_item i = named (codes "S") ∷ item i ∷ []

-- S.c() means 1
abbrev pub ReferenceAlone : Type 0
ReferenceAlone = Means (model_of hiding) (cell (named (codes "S") ∷ []) c) (Gives (whole 1))

-- S[2].c() means 2
abbrev pub ParameterHides : Type 0
ParameterHides = Means (model_of hiding) (cell (s_item 2) c) (Gives (whole 2))

-- the space that S[2] gives
abbrev pub item_reply : Reply
item_reply = record { value = Space (s_item 2); namespace = Some (record { at = s_item 2; source = space_s; overlay = (x, Int (pos 2)) ∷ [] }) }

-- the run of S[2].c() tests the parameters of S, asks S[2] and looks up the cells alone, and not the name
abbrev pub ParameterIsNoKey : Type 0
ParameterIsNoKey = Leads (model_of hiding) (body (cell (s_item 2) c))
    (Tested (key.Params space_s) ∷ Asked (Item (named (codes "S") ∷ []) (Int (pos 2) ∷ [])) item_reply ∷ Looked (key.Cells space_s c) ∷ [])
    (Ends (Gives (whole 2)))

-- ---- a target that is relative leads into the item, one that is fixed where it was written:
-- params S(k), ref S.t = to S.T, ref S.u = abs S.T, cells S.c() = t.v(), cells S.d() = u.v(), cells S.T.v() = k, ref S.T.k = 7

abbrev pub leading : Key → KeyResult
leading = look_in (record {
  names = target_reference space_s t space_st false ∷ target_reference space_s u space_st true ∷ cells_named space_st v ∷ whole_reference space_st k 7 ∷ [];
  cells = cells_of space_s c (call_through t v) ∷ cells_of space_s d (call_through u v) ∷ cells_of space_st v (Name k) ∷ [];
  params = (space_s, one_param k) ∷ [];
  paths = space_s ∷ space_st ∷ [];
  tables = [];
})

-- S[3].c() means 3, by the overlay that T takes over in the item
abbrev pub RelativeTarget : Type 0
RelativeTarget = Means (model_of leading) (cell (s_item 3) c) (Gives (whole 3))

-- S[3].d() means 7
abbrev pub FixedTarget : Type 0
FixedTarget = Means (model_of leading) (cell (s_item 3) d) (Gives (whole 7))

-- ---- a formula that a space takes over looks names up where it runs: cells A.f() = k, which B takes over, ref A.k = 1, ref B.k = 2

abbrev pub inheriting : Key → KeyResult
inheriting = look_in (record {
  names = whole_reference space_a k 1 ∷ whole_reference space_b k 2 ∷ [];
  cells = cells_of space_a f (Name k) ∷ cells_of space_b f (Name k) ∷ [];
  params = [];
  paths = space_a ∷ space_b ∷ [];
  tables = [];
})

-- A.f() means 1
abbrev pub FormulaAtHome : Type 0
FormulaAtHome = Means (model_of inheriting) (cell (named (codes "A") ∷ []) f) (Gives (whole 1))

-- B.f() means 2
abbrev pub FormulaTakenOver : Type 0
FormulaTakenOver = Means (model_of inheriting) (cell (named (codes "B") ∷ []) f) (Gives (whole 2))

-- ---- the entry of a table: ref Main.m = table m, cells c() = m[30, "rate"]

abbrev pub rates : TableRows
rates = record { columns = codes "age" ∷ rate ∷ []; keys = pos 30 ∷ []; rows = (Fix (pos 2500000) ∷ []) ∷ [] }

abbrev pub tabled : Key → KeyResult
tabled = look_in (record {
  names = table_reference space_main m m ∷ [];
  cells = cells_of space_main c (Post (Name m) (trailer.Index (Lit (Int (pos 30)) ∷ Lit (Text rate) ∷ []) ∷ [])) ∷ [];
  params = [];
  paths = space_main ∷ [];
  tables = (m, rates) ∷ [];
})

abbrev pub table_node : Node
table_node = cell (named (codes "Main") ∷ []) c

abbrev pub table_events : List Event
table_events =
    Looked (key.Input table_node) ∷ Looked (key.Cells space_main c) ∷ Looked (key.Name space_main m)
    ∷ Noted (read.Ref (named (codes "Main") ∷ []) m) ∷ Noted (read.Table m) ∷ Looked (key.Table m) ∷ []

-- c() gives 0.0025; it reads the reference and the table, and their keys
abbrev pub TableEntry : Type 0
TableEntry = Leads (model_of tabled) (body table_node) table_events (Ends (Gives (record { value = Fix (pos 2500000); namespace = None })))

-- ---- a parameter formula gives a base and references: ref S.p = to P, params S(k) = {"base": p, "refs": {"z": k + 1}},
-- cells P.v() = k * 10, cells P.w() = z

abbrev pub based_params : Params
based_params = record {
  params = record { name = k; default = None } ∷ [];
  body = Some (ReturnItem (entry.Base (Name p) ∷ entry.Refs ((z, Sum (Name k) (roll-SumPart (record { op = sums.Plus; of = Lit (Int (pos 1)) }) ∷ [])) ∷ []) ∷ []) ∷ []);
}

abbrev pub basing : Key → KeyResult
basing = look_in (record {
  names = target_reference space_s p space_p false ∷ [];
  cells = cells_of space_p v (Product (Name k) (roll-ProductPart (record { op = products.Times; of = Lit (Int (pos 10)) }) ∷ [])) ∷ cells_of space_p w (Name z) ∷ [];
  params = (space_s, based_params) ∷ [];
  paths = space_p ∷ space_s ∷ [];
  tables = [];
})

-- S[4].v() means 40, by the formula of P and the parameter of the item
abbrev pub BaseGivesCells : Type 0
BaseGivesCells = Means (model_of basing) (cell (s_item 4) v) (Gives (whole 40))

-- S[4].w() means 5, by a reference that the parameter formula adds
abbrev pub ReferencesAreAdded : Type 0
ReferencesAreAdded = Means (model_of basing) (cell (s_item 4) w) (Gives (whole 5))
