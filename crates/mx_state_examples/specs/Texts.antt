-- The model texts of the worked examples, as their edits make them.
use Rattle.std.specs.Prelude.{ℕ, pos, true, false, List, [], ◌∷◌, Some, None, codes}
use Rattle.mx_value.specs.declared.label.Label.{Label}
use Rattle.mx_value.specs.declared.value.Value.TheVariants.{Int, Flag}
use Rattle.mx_value.specs.declared.value.Segment.TheVariants as segment
use Rattle.mx_syntax.specs.declared.expr.Arm.{roll-Arm}
use Rattle.mx_syntax.specs.declared.expr.Expr.{Expr}
use Rattle.mx_syntax.specs.declared.expr.Expr.TheVariants.{Lit, Name, Cond, Sum, Product, Post}
use Rattle.mx_syntax.specs.declared.expr.SumPart.{roll-SumPart}
use Rattle.mx_syntax.specs.declared.expr.SumOp.TheVariants as sums
use Rattle.mx_syntax.specs.declared.expr.ProductPart.{roll-ProductPart}
use Rattle.mx_syntax.specs.declared.expr.ProductOp.TheVariants as products
use Rattle.mx_syntax.specs.declared.expr.Trailer.TheVariants as trailer
use Rattle.mx_syntax.specs.declared.expr.Args.TheVariants as arguments
use Rattle.mx_syntax.specs.declared.stmt.Stmt.TheVariants.{Return, ReturnItem}
use Rattle.mx_syntax.specs.declared.stmt.ItemEntry.{ItemEntry}
use Rattle.mx_syntax.specs.declared.stmt.ItemEntry.TheVariants as entry
use Rattle.mx_syntax.specs.declared.stmt.Param.{Param}
use Rattle.mx_syntax.specs.declared.stmt.Formula.{Formula}
use Rattle.mx_edit.specs.declared.reference.RefValue.TheVariants as reference
use Rattle.mx_edit.specs.declared.edit.Edit.{Edit}
use Rattle.mx_edit.specs.declared.edit.Edit.TheVariants as edit
use Rattle.mx_model.specs.Records.{Path, ModelRecord, beginning}
use Rattle.mx_model.specs.Rows.{made}

-- ---- paths

abbrev pub at : Label → Path
at name = name ∷ []

abbrev pub below : Label → Label → Path
below name child = name ∷ child ∷ []

abbrev pub main : Path
main = at (codes "Main")

-- the spaces at the top, and B below A and S
abbrev pub space_a : Path
space_a = at (codes "A")

abbrev pub space_ab : Path
space_ab = below (codes "A") (codes "B")

abbrev pub space_p : Path
space_p = at (codes "P")

abbrev pub space_s : Path
space_s = at (codes "S")

abbrev pub space_sb : Path
space_sb = below (codes "S") (codes "B")

-- ---- formulas

-- a parameter without a default
abbrev pub param : Label → Param
param name = record { name = name; default = None }

-- a formula of one expression
abbrev pub one_line : List Param → Expr → Formula
one_line params e = record { params = params; body = Return (Some e) ∷ [] }

abbrev pub whole_number : ℕ → Expr
whole_number n = Lit (Int (pos n))

abbrev pub times : Expr → Expr → Expr
times a b = Product a (roll-ProductPart (record { op = products.Times; of = b }) ∷ [])

abbrev pub plus : Expr → Expr → Expr
plus a b = Sum a (roll-SumPart (record { op = sums.Plus; of = b }) ∷ [])

-- cells called by their name
abbrev pub call : Label → List Expr → Expr
call name args = Post (Name name) (trailer.Call (arguments.List args) ∷ [])

-- cells without parameters, called through a space that a name stands for
abbrev pub call_through : Label → Label → Expr
call_through space name = Post (Name space) (trailer.Attr name ∷ trailer.Call (arguments.List []) ∷ [])

-- the one or the other, by a test
abbrev pub choice : Expr → Expr → Expr → Expr
choice taken test other = Cond (roll-Arm (record { value = taken; test = test }) ∷ []) other

-- ---- edits

abbrev pub space : Label → Edit
space name = edit.NewSpace [] name

abbrev pub cells : Path → Label → Expr → Edit
cells path name e = edit.SetCells path name (one_line [] e)

abbrev pub cells_of : Path → Label → Label → Expr → Edit
cells_of path name p e = edit.SetCells path name (one_line (param p ∷ []) e)

-- a target written `to`, and one written `abs`
abbrev pub target : Path → Label → Path → Edit
target path name to = edit.SetRef path name (reference.Target to false)

abbrev pub fixed_target : Path → Label → Path → Edit
fixed_target path name to = edit.SetRef path name (reference.Target to true)

-- one parameter without a parameter formula, and one with a display
abbrev pub params : Path → Label → Edit
params path p = edit.SetParams path (Some (record { params = param p ∷ []; body = None }))

abbrev pub params_display : Path → Label → List ItemEntry → Edit
params_display path p entries = edit.SetParams path (Some (record { params = param p ∷ []; body = Some (ReturnItem entries ∷ []) }))

-- ---- the parameter of an item hides a reference of its name

-- space S, ref S.x = 1, params S(x), cells S.c() = x
abbrev pub hiding : ModelRecord
hiding = made beginning (space (codes "S") ∷ edit.SetRef space_s (codes "x") (reference.Plain (Int (pos 1))) ∷ params space_s (codes "x") ∷ cells space_s (codes "c") (Name (codes "x")) ∷ [])

-- ---- items of a space with a parameter

-- space S, params S(x), cells S.c(t) = x * t
abbrev pub multiplying : ModelRecord
multiplying = made beginning (space (codes "S") ∷ params space_s (codes "x") ∷ cells_of space_s (codes "c") (codes "t") (times (Name (codes "x")) (Name (codes "t"))) ∷ [])

-- ---- a choice reads no more than it takes

-- ref flag = True, cells a() = 1, cells b() = 2, cells c() = a() if flag else b()
abbrev pub choosing : ModelRecord
choosing =
    made beginning
    (edit.SetRef main (codes "flag") (reference.Plain (Flag true)) ∷ cells main (codes "a") (whole_number 1) ∷ cells main (codes "b") (whole_number 2)
    ∷ cells main (codes "c") (choice (call (codes "a") []) (Name (codes "flag")) (call (codes "b") [])) ∷ [])

-- ---- a formula that a space takes over looks names up where it runs

-- space A, space A.B, cells A.B.v() = 1, ref A.b = to A.B, cells A.w() = b.v() * 10, space S, bases S: A, space S.B, cells S.B.v() = 2
abbrev pub inheriting : ModelRecord
inheriting =
    made beginning
    (space (codes "A") ∷ edit.NewSpace space_a (codes "B") ∷ cells space_ab (codes "v") (whole_number 1) ∷ target space_a (codes "b") space_ab
    ∷ cells space_a (codes "w") (times (call_through (codes "b") (codes "v")) (whole_number 10))
    ∷ space (codes "S") ∷ edit.SetBases space_s (space_a ∷ []) ∷ edit.NewSpace space_s (codes "B") ∷ cells space_sb (codes "v") (whole_number 2) ∷ [])

-- ref A.b = abs A.B
abbrev pub inheriting_fixed : ModelRecord
inheriting_fixed = made inheriting (fixed_target space_a (codes "b") space_ab ∷ [])

-- ---- names are not sought in the space above

-- space A, space A.B, cells A.k() = 2, cells A.B.v() = k()
abbrev pub nested : ModelRecord
nested = made beginning (space (codes "A") ∷ edit.NewSpace space_a (codes "B") ∷ cells space_a (codes "k") (whole_number 2) ∷ cells space_ab (codes "v") (call (codes "k") []) ∷ [])

-- ref A.B.k = abs A.k
abbrev pub referring : ModelRecord
referring = made nested (fixed_target space_ab (codes "k") (below (codes "A") (codes "k")) ∷ [])

-- unspace A
abbrev pub emptied : ModelRecord
emptied = made referring (edit.DelSpace space_a ∷ [])

-- ---- items with a base and references

-- space P, cells P.v() = k * 10, space S, ref S.p = to P, params S(k) = {"base": p, "refs": {"z": k + 1}}, cells P.w() = z
abbrev pub basing : ModelRecord
basing =
    made beginning
    (space (codes "P") ∷ cells space_p (codes "v") (times (Name (codes "k")) (whole_number 10)) ∷ space (codes "S") ∷ target space_s (codes "p") space_p
    ∷ params_display space_s (codes "k") (entry.Base (Name (codes "p")) ∷ entry.Refs ((codes "z", plus (Name (codes "k")) (whole_number 1)) ∷ []) ∷ [])
    ∷ cells space_p (codes "w") (Name (codes "z")) ∷ [])

-- params S(k) = {"base": p}
abbrev pub basing_alone : ModelRecord
basing_alone = made basing (params_display space_s (codes "k") (entry.Base (Name (codes "p")) ∷ []) ∷ [])

-- params S(k) = {"base": 3}
abbrev pub basing_wrong : ModelRecord
basing_wrong = made basing_alone (params_display space_s (codes "k") (entry.Base (whole_number 3) ∷ []) ∷ [])

-- ---- rings

-- space S, cells S.c() = 1, ref S.me = to S, params S(x) = {"refs": {"y": me[x].c()}}
abbrev pub asking_itself : ModelRecord
asking_itself =
    made beginning
    (space (codes "S") ∷ cells space_s (codes "c") (whole_number 1) ∷ target space_s (codes "me") space_s
    ∷ params_display space_s (codes "x") (entry.Refs ((codes "y", Post (Name (codes "me")) (trailer.Index (Name (codes "x") ∷ []) ∷ trailer.Attr (codes "c") ∷ trailer.Call (arguments.List []) ∷ [])) ∷ []) ∷ []) ∷ [])

-- cells f(n) = g(n), cells g(n) = f(n)
abbrev pub asking_round : ModelRecord
asking_round = made beginning (cells_of main (codes "f") (codes "n") (call (codes "g") (Name (codes "n") ∷ [])) ∷ cells_of main (codes "g") (codes "n") (call (codes "f") (Name (codes "n") ∷ [])) ∷ [])

-- cells g(n) = 7
abbrev pub mended : ModelRecord
mended = made asking_round (cells_of main (codes "g") (codes "n") (whole_number 7) ∷ [])

-- ---- a display replaces a parameter

-- space S, params S(k) = {"refs": {"k": k + 1}}, cells S.c() = k
abbrev pub replacing : ModelRecord
replacing =
    made beginning
    (space (codes "S") ∷ params_display space_s (codes "k") (entry.Refs ((codes "k", plus (Name (codes "k")) (whole_number 1)) ∷ []) ∷ []) ∷ cells space_s (codes "c") (Name (codes "k")) ∷ [])

-- ---- a reference of the model, a default and an input

-- global rate = 5, cells c() = rate
abbrev pub with_global : ModelRecord
with_global = made beginning (edit.SetRef [] (codes "rate") (reference.Plain (Int (pos 5))) ∷ cells main (codes "c") (Name (codes "rate")) ∷ [])

-- two parameters, of which the second has a default
abbrev pub n_and_k : List Param
n_and_k = param (codes "n") ∷ record { name = codes "k"; default = Some (Int (pos 7)) } ∷ []

-- cells f(n, k=7) = n + k, cells c() = f(1)
abbrev pub with_default : ModelRecord
with_default =
    made beginning
    (edit.SetCells main (codes "f") (one_line n_and_k (plus (Name (codes "n")) (Name (codes "k")))) ∷ cells main (codes "c") (call (codes "f") (whole_number 1 ∷ [])) ∷ [])

-- input f(1) = 9
abbrev pub with_input : ModelRecord
with_input = made with_default (edit.SetInput (segment.Name (codes "Main") ∷ []) (codes "f") (Int (pos 1) ∷ []) (Int (pos 9)) ∷ [])
