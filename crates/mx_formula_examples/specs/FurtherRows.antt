-- Further worked examples: rings, choices, formulas and targets that are taken over, targets that are cells, and binding.
use Rattle.std.specs.Prelude.{pos, List, [], ◌∷◌, Some, None, true, false, codes}
use Rattle.mx_value.specs.declared.label.Label.{Label}
use Rattle.mx_value.specs.declared.value.Value.TheVariants.{Int, Fix, Flag}
use Rattle.mx_value.specs.declared.value.Segment.{Segment}
use Rattle.mx_value.specs.declared.value.Segment.TheVariants as segment
use Rattle.mx_value.specs.declared.node.Node.{Node}
use Rattle.mx_value.specs.declared.node.Node.TheVariants.{Cell, Item}
use Rattle.mx_value.specs.declared.read.Read.TheVariants as read
use Rattle.mx_value.specs.declared.fault.FaultKind.TheVariants.{NoName}
use Rattle.mx_syntax.specs.declared.expr.Expr.{Expr}
use Rattle.mx_syntax.specs.declared.expr.Expr.TheVariants.{Lit, Name, Cond, Product, Post}
use Rattle.mx_syntax.specs.declared.expr.Arm.{roll-Arm}
use Rattle.mx_syntax.specs.declared.expr.ProductPart.{roll-ProductPart}
use Rattle.mx_syntax.specs.declared.expr.ProductOp.TheVariants as products
use Rattle.mx_syntax.specs.declared.expr.Trailer.TheVariants as trailer
use Rattle.mx_syntax.specs.declared.expr.Args.TheVariants as arguments
use Rattle.mx_syntax.specs.declared.stmt.Stmt.TheVariants.{Return, ReturnItem}
use Rattle.mx_syntax.specs.declared.stmt.ItemEntry.TheVariants as entry
use Rattle.mx_edit.specs.declared.reference.RefValue.TheVariants as reference
use Rattle.mx_edit.specs.declared.key.Key.{Key}
use Rattle.mx_edit.specs.declared.key.Key.TheVariants as key
use Rattle.mx_edit.specs.declared.key.KeyResult.{KeyResult}
use Rattle.mx_edit.specs.declared.key.KeyResult.TheVariants as found
use Rattle.mx_runs.specs.Runs.{Ends, Gives, Faults, Event, Looked, Asked, Noted}
use Rattle.mx_runs.specs.Meaning.{Means, Leads}
use Rattle.mx_runs.specs.Chains.{IsRing, MeansNothing}
use Rattle.mx_meaning.specs.Nodes.{body}
use Rattle.mx_meaning.specs.Laws.{model_of, BindsTo}
use Rattle.mx_formula_examples.specs.Rows.{Member, look_in, cells_of, cells_named, target_reference, space_a, space_s, space_main, named, cell, whole, call_through, s_item, hiding, x, c, f, k, v, w}

abbrev pub a : Label
a = codes "a"

abbrev pub b : Label
b = codes "b"

abbrev pub flag : Label
flag = codes "flag"

abbrev pub g : Label
g = codes "g"

abbrev pub me : Label
me = codes "me"

abbrev pub n : Label
n = codes "n"

abbrev pub y : Label
y = codes "y"

-- the child B of A, and that of S
abbrev pub space_ab : List Label
space_ab = codes "A" ∷ codes "B" ∷ []

abbrev pub space_sb : List Label
space_sb = codes "S" ∷ codes "B" ∷ []

-- cells of the parameter n, of one line
abbrev pub cells_over_n : List Label → Label → Expr → Member
cells_over_n path name e = record { path = path; name = name; is = found.Formula (record { params = record { name = n; default = None } ∷ []; body = Return (Some e) ∷ [] }) false }

abbrev pub call_of : Label → List Expr → Expr
call_of name args = Post (Name name) (trailer.Call (arguments.List args) ∷ [])

abbrev pub main : List Segment
main = named (codes "Main") ∷ []

-- ---- f(n) = g(n), g(n) = f(n)

abbrev pub circle : Key → KeyResult
circle = look_in (record {
  names = cells_named space_main f ∷ cells_named space_main g ∷ [];
  cells = cells_over_n space_main f (call_of g (Name n ∷ [])) ∷ cells_over_n space_main g (call_of f (Name n ∷ [])) ∷ [];
  params = [];
  paths = space_main ∷ [];
  tables = [];
})

-- the node of these cells of Main at 1
abbrev pub at_1 : Label → Node
at_1 name = Cell main name (Int (pos 1) ∷ [])

-- f(1) asks g(1), and that asks f(1)
abbrev pub Circle : Type 0
Circle = IsRing (model_of circle) (at_1 f) (at_1 f ∷ at_1 g ∷ [])

abbrev pub CircleMeansNothing : Type 0
CircleMeansNothing = MeansNothing (model_of circle) (at_1 f)

-- the same with g(n) = 7
abbrev pub mended : Key → KeyResult
mended = look_in (record {
  names = cells_named space_main f ∷ cells_named space_main g ∷ [];
  cells = cells_over_n space_main f (call_of g (Name n ∷ [])) ∷ cells_over_n space_main g (Lit (Int (pos 7))) ∷ [];
  params = [];
  paths = space_main ∷ [];
  tables = [];
})

-- f(1) means 7
abbrev pub Mended : Type 0
Mended = Means (model_of mended) (at_1 f) (Gives (whole 7))

-- ---- an item that asks for itself: ref S.me = to S, params S(x) = {"refs": {"y": me[x].c()}}

abbrev pub me_item : Expr
me_item = Post (Name me) (trailer.Index (Name x ∷ []) ∷ trailer.Attr c ∷ trailer.Call (arguments.List []) ∷ [])

abbrev pub item_circle : Key → KeyResult
item_circle = look_in (record {
  names = target_reference space_s me space_s false ∷ cells_named space_s c ∷ [];
  cells = cells_of space_s c (Lit (Int (pos 1))) ∷ [];
  params = (space_s, record { params = record { name = x; default = None } ∷ []; body = Some (ReturnItem (entry.Refs ((y, me_item) ∷ []) ∷ []) ∷ []) }) ∷ [];
  paths = space_s ∷ [];
  tables = [];
})

abbrev pub s_at_1 : Node
s_at_1 = Item (named (codes "S") ∷ []) (Int (pos 1) ∷ [])

-- S[1] asks S[1]
abbrev pub ItemCircle : Type 0
ItemCircle = IsRing (model_of item_circle) s_at_1 (s_at_1 ∷ [])

-- ---- a choice: ref Main.flag = True, a() = 1, b() = 2, c() = a() if flag else b()

abbrev pub choosing : Key → KeyResult
choosing = look_in (record {
  names = record { path = space_main; name = flag; is = found.Ref (reference.Plain (Flag true)) space_main } ∷ cells_named space_main a ∷ cells_named space_main b ∷ [];
  cells = cells_of space_main a (Lit (Int (pos 1))) ∷ cells_of space_main b (Lit (Int (pos 2))) ∷ cells_of space_main c (Cond (roll-Arm (record { value = call_of a []; test = Name flag }) ∷ []) (call_of b [])) ∷ [];
  params = [];
  paths = space_main ∷ [];
  tables = [];
})

-- c() reads the reference and a(), in this order, and not b()
abbrev pub chosen_events : List Event
chosen_events =
    Looked (key.Input (cell main c)) ∷ Looked (key.Cells space_main c) ∷ Looked (key.Name space_main flag) ∷ Noted (read.Ref main flag)
    ∷ Looked (key.Name space_main a) ∷ Looked (key.Cells space_main a) ∷ Asked (cell main a) (whole 1) ∷ []

abbrev pub Chosen : Type 0
Chosen = Leads (model_of choosing) (body (cell main c)) chosen_events (Ends (Gives (whole 1)))

-- ---- a target that is taken over: ref A.b = to A.B, A.w() = b.v() * 10, A.B.v() = 1, S takes over A, S.B.v() = 2

abbrev pub ten_times : Expr
ten_times = Product (call_through b v) (roll-ProductPart (record { op = products.Times; of = Lit (Int (pos 10)) }) ∷ [])

-- S binds b to the reference that A defines
abbrev pub taking_over : Key → KeyResult
taking_over = look_in (record {
  names = target_reference space_a b space_ab false ∷ record { path = space_s; name = b; is = found.Ref (reference.Target space_ab false) space_a } ∷ cells_named space_ab v ∷ cells_named space_sb v ∷ [];
  cells = cells_of space_a w ten_times ∷ cells_of space_s w ten_times ∷ cells_of space_ab v (Lit (Int (pos 1))) ∷ cells_of space_sb v (Lit (Int (pos 2))) ∷ [];
  params = [];
  paths = space_a ∷ space_ab ∷ space_s ∷ space_sb ∷ [];
  tables = [];
})

-- A.w() means 10
abbrev pub TargetAtHome : Type 0
TargetAtHome = Means (model_of taking_over) (cell (named (codes "A") ∷ []) w) (Gives (whole 10))

-- S.w() means 20
abbrev pub TargetTakenOver : Type 0
TargetTakenOver = Means (model_of taking_over) (cell (named (codes "S") ∷ []) w) (Gives (whole 20))

-- ---- a target that is cells: A.k() = 2, A.B.v() = k(), ref A.B.k = abs A.k

abbrev pub targeting : List Member → Key → KeyResult
targeting refs = look_in (record {
  names = cells_named space_a k ∷ cells_named space_ab v ∷ refs;
  cells = cells_of space_a k (Lit (Int (pos 2))) ∷ cells_of space_ab v (call_of k []) ∷ [];
  params = [];
  paths = space_a ∷ space_ab ∷ [];
  tables = [];
})

abbrev pub ab_v : Node
ab_v = cell (named (codes "A") ∷ named (codes "B") ∷ []) v

-- without the reference A.B.v() finds no k
abbrev pub NoNameFound : Type 0
NoNameFound = Means (model_of (targeting [])) ab_v (Faults NoName ab_v 1)

-- and with it means 2
abbrev pub CellsTargeted : Type 0
CellsTargeted = Means (model_of (targeting (target_reference space_ab k (codes "A" ∷ k ∷ []) true ∷ []))) ab_v (Gives (whole 2))

-- ---- arguments of an item are bound: S[2.0].c() is S[2].c()

abbrev pub ItemIsBound : Type 0
ItemIsBound = BindsTo (model_of hiding) (cell (named (codes "S") ∷ segment.Item (Fix (pos 2000000000) ∷ []) ∷ []) c) (cell (s_item 2) c)
