-- Statements, and the texts of formulas and of the parameters of spaces.
use Rattle.std.specs.Prelude.{ℕ, List, [], ◌∷◌, ◌++◌, Option, Some, None}
use Rattle.mx_syntax.specs.declared.expr.Expr.{Expr}
use Rattle.mx_syntax.specs.declared.stmt.Stmt.{Stmt}
use Rattle.mx_syntax.specs.declared.stmt.Stmt.TheVariants as stmt
use Rattle.mx_syntax.specs.declared.stmt.IfArm.{IfArm, roll-IfArm}
use Rattle.mx_syntax.specs.declared.stmt.ArithOp.{ArithOp}
use Rattle.mx_syntax.specs.declared.stmt.ArithOp.TheVariants.{Add, Sub, Mul}
use Rattle.mx_syntax.specs.declared.stmt.ItemEntry.{ItemEntry}
use Rattle.mx_syntax.specs.declared.stmt.Param.{Param}
use Rattle.mx_syntax.specs.declared.stmt.Formula.{Formula}
use Rattle.mx_syntax.specs.declared.stmt.Params.{Params}
use Rattle.mx_grammar.specs.declared.word.Word.{Word}
use Rattle.mx_grammar.specs.declared.word.Word.TheVariants.{Name, Symbol}
use Rattle.mx_grammar.specs.declared.word.Symbol.TheVariants as symbol
use Rattle.mx_grammar.specs.Grammar.{Spelling, Parts, Within, Line}

-- E says what spells an expression, and Item what spells the display of an item: nothing, where none may be returned.
pub data Simple (E : Spelling Expr) (Item : Spelling (List ItemEntry)) : List Word → Stmt → Type 0 where
  pass : Simple E Item (Symbol symbol.Pass ∷ []) stmt.Pass
  leave : Simple E Item (Symbol symbol.Return ∷ []) (stmt.Return None)
  value : {u : List Word} {x : Expr} → E u x → Simple E Item (Symbol symbol.Return ∷ u) (stmt.Return (Some x))
  item : {u : List Word} {entries : List ItemEntry} → Item u entries → Simple E Item (Symbol symbol.Return ∷ u) (stmt.ReturnItem entries)
  assign : {n : List ℕ} {u : List Word} {x : Expr} → E u x → Simple E Item (Name n ∷ Symbol symbol.Assign ∷ u) (stmt.Assign n x)
  add : {n : List ℕ} {u : List Word} {x : Expr} → E u x → Simple E Item (Name n ∷ Symbol symbol.PlusAssign ∷ u) (stmt.Change n Add x)
  sub : {n : List ℕ} {u : List Word} {x : Expr} → E u x → Simple E Item (Name n ∷ Symbol symbol.MinusAssign ∷ u) (stmt.Change n Sub x)
  mul : {n : List ℕ} {u : List Word} {x : Expr} → E u x → Simple E Item (Name n ∷ Symbol symbol.TimesAssign ∷ u) (stmt.Change n Mul x)

-- In says what spells a body.
pub data Elif (E : Spelling Expr) (In : Spelling (List Stmt)) : List Word → IfArm → Type 0 where
  elif : {u v : List Word} {test : Expr} {body : List Stmt} → E u test → In v body → Elif E In (Symbol symbol.Elif ∷ u ++ Symbol symbol.Colon ∷ v) (roll-IfArm (record { test = test; body = body }))

pub data Else (In : Spelling (List Stmt)) : List Word → Option (List Stmt) → Type 0 where
  none : Else In [] None
  other : {u : List Word} {body : List Stmt} → In u body → Else In (Symbol symbol.Else ∷ Symbol symbol.Colon ∷ u) (Some body)

pub data Statement (E : Spelling Expr) (Item : Spelling (List ItemEntry)) (In : Spelling (List Stmt)) : List Word → Stmt → Type 0 where
  simple : {u : List Word} {s : Stmt} → Line (Simple E Item) u s → Statement E Item In u s
  each : {n : List ℕ} {u v : List Word} {over : Expr} {body : List Stmt} → E u over → In v body
      → Statement E Item In (Symbol symbol.For ∷ Name n ∷ Symbol symbol.In ∷ u ++ Symbol symbol.Colon ∷ v) (stmt.For n over body)
  branches : {u v w z : List Word} {test : Expr} {body : List Stmt} {arms : List IfArm} {other : Option (List Stmt)} → E u test → In v body → Parts (Elif E In) w arms → Else In z other
      → Statement E Item In (Symbol symbol.If ∷ u ++ Symbol symbol.Colon ∷ v ++ (w ++ z)) (stmt.If (roll-IfArm (record { test = test; body = body }) ∷ arms) other)

-- a simple statement on the line, or a block. In says what spells a block.
pub data Body (E : Spelling Expr) (Item : Spelling (List ItemEntry)) (In : Spelling (List Stmt)) : List Word → List Stmt → Type 0 where
  line : {u : List Word} {s : Stmt} → Line (Simple E Item) u s → Body E Item In u (s ∷ [])
  block : {u : List Word} {body : List Stmt} → In u body → Body E Item In u body

-- at least one statement, further in. In says what spells a block inside of this one.
pub data Block (E : Spelling Expr) (Item : Spelling (List ItemEntry)) (In : Spelling (List Stmt)) : List Word → List Stmt → Type 0 where
  block : {u : List Word} {s : Stmt} {others : List Stmt} → Parts (Statement E Item (Body E Item In)) u (s ∷ others)
      → Block E Item In (Symbol symbol.Newline ∷ Symbol symbol.Indent ∷ u ++ Symbol symbol.Dedent ∷ []) (s ∷ others)

-- with blocks in so many levels
abbrev pub Blocks : Spelling Expr → Spelling (List ItemEntry) → ℕ → Spelling (List Stmt)
Blocks E Item = Within (Block E Item)

abbrev pub Bodies : Spelling Expr → Spelling (List ItemEntry) → ℕ → Spelling (List Stmt)
Bodies E Item levels = Body E Item (Blocks E Item levels)

-- the formula of cells. P says what spells the parameters, and B what spells a body.
pub data FormulaText (P : Spelling (List Param)) (E : Spelling Expr) (B : Spelling (List Stmt)) : List Word → Formula → Type 0 where
  value : {u v : List Word} {params : List Param} {x : Expr} → P u params → E v x
      → FormulaText P E B (u ++ Symbol symbol.Assign ∷ v ++ Symbol symbol.Newline ∷ []) (record { params = params; body = stmt.Return (Some x) ∷ [] })
  body : {u v : List Word} {params : List Param} {body : List Stmt} → P u params → B v body
      → FormulaText P E B (u ++ Symbol symbol.Colon ∷ v) (record { params = params; body = body })

-- the parameters of a space, and maybe the formula of its items
pub data ParamsText (P : Spelling (List Param)) (E : Spelling Expr) (Item : Spelling (List ItemEntry)) (B : Spelling (List Stmt)) : List Word → Params → Type 0 where
  alone : {u : List Word} {params : List Param} → P u params → ParamsText P E Item B (u ++ Symbol symbol.Newline ∷ []) (record { params = params; body = None })
  value : {u v : List Word} {params : List Param} {x : Expr} → P u params → E v x
      → ParamsText P E Item B (u ++ Symbol symbol.Assign ∷ v ++ Symbol symbol.Newline ∷ []) (record { params = params; body = Some (stmt.Return (Some x) ∷ []) })
  item : {u v : List Word} {params : List Param} {entries : List ItemEntry} → P u params → Item v entries
      → ParamsText P E Item B (u ++ Symbol symbol.Assign ∷ v ++ Symbol symbol.Newline ∷ []) (record { params = params; body = Some (stmt.ReturnItem entries ∷ []) })
  body : {u v : List Word} {params : List Param} {body : List Stmt} → P u params → B v body
      → ParamsText P E Item B (u ++ Symbol symbol.Colon ∷ v) (record { params = params; body = Some body })
