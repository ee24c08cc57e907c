-- Chains of operators, and conditionals. S says what spells a part. A chain of one part is that part.
use Rattle.std.specs.Prelude.{ℕ, suc, List, [], ◌∷◌, ◌++◌}
use Rattle.mx_syntax.specs.declared.expr.Expr.{Expr}
use Rattle.mx_syntax.specs.declared.expr.Expr.TheVariants as expr
use Rattle.mx_syntax.specs.declared.expr.Arm.{Arm, roll-Arm}
use Rattle.mx_syntax.specs.declared.expr.Comparison.{Comparison as Comparisons}
use Rattle.mx_syntax.specs.declared.expr.Comparison.TheVariants as made
use Rattle.mx_syntax.specs.declared.expr.CmpOp.{CmpOp}
use Rattle.mx_syntax.specs.declared.expr.CmpOp.TheVariants as compare
use Rattle.mx_syntax.specs.declared.expr.SumPart.{SumPart, roll-SumPart}
use Rattle.mx_syntax.specs.declared.expr.SumOp.{SumOp}
use Rattle.mx_syntax.specs.declared.expr.SumOp.TheVariants as sum
use Rattle.mx_syntax.specs.declared.expr.ProductPart.{ProductPart, roll-ProductPart}
use Rattle.mx_syntax.specs.declared.expr.ProductOp.{ProductOp}
use Rattle.mx_syntax.specs.declared.expr.ProductOp.TheVariants as product
use Rattle.mx_grammar.specs.declared.word.Word.{Word}
use Rattle.mx_grammar.specs.declared.word.Word.TheVariants.{Symbol}
use Rattle.mx_grammar.specs.declared.word.Symbol.TheVariants as symbol
use Rattle.mx_grammar.specs.Grammar.{Spelling, Parts}

-- ---- products

pub data ProductSign : List Word → ProductOp → Type 0 where
  times : ProductSign (Symbol symbol.Times ∷ []) product.Times
  over : ProductSign (Symbol symbol.Over ∷ []) product.Over
  floor : ProductSign (Symbol symbol.Floor ∷ []) product.Floor
  rem : ProductSign (Symbol symbol.Rem ∷ []) product.Rem

pub data ProductTail (S : Spelling Expr) : List Word → ProductPart → Type 0 where
  tail : {u v : List Word} {op : ProductOp} {x : Expr} → ProductSign u op → S v x → ProductTail S (u ++ v) (roll-ProductPart (record { op = op; of = x }))

pub data Product (S : Spelling Expr) : List Word → Expr → Type 0 where
  alone : {u : List Word} {x : Expr} → S u x → Product S u x
  chain : {u v : List Word} {x : Expr} {y : ProductPart} {ys : List ProductPart} → S u x → Parts (ProductTail S) v (y ∷ ys)
      → Product S (u ++ v) (expr.Product x (y ∷ ys))

-- ---- sums

pub data SumSign : List Word → SumOp → Type 0 where
  plus : SumSign (Symbol symbol.Plus ∷ []) sum.Plus
  minus : SumSign (Symbol symbol.Minus ∷ []) sum.Minus

pub data SumTail (S : Spelling Expr) : List Word → SumPart → Type 0 where
  tail : {u v : List Word} {op : SumOp} {x : Expr} → SumSign u op → S v x → SumTail S (u ++ v) (roll-SumPart (record { op = op; of = x }))

pub data Sum (S : Spelling Expr) : List Word → Expr → Type 0 where
  alone : {u : List Word} {x : Expr} → S u x → Sum S u x
  chain : {u v : List Word} {x : Expr} {y : SumPart} {ys : List SumPart} → S u x → Parts (SumTail S) v (y ∷ ys) → Sum S (u ++ v) (expr.Sum x (y ∷ ys))

-- ---- comparisons

pub data CompareSign : List Word → CmpOp → Type 0 where
  less : CompareSign (Symbol symbol.Lt ∷ []) compare.Lt
  at_most : CompareSign (Symbol symbol.Le ∷ []) compare.Le
  greater : CompareSign (Symbol symbol.Gt ∷ []) compare.Gt
  at_least : CompareSign (Symbol symbol.Ge ∷ []) compare.Ge
  equal : CompareSign (Symbol symbol.Eq ∷ []) compare.Eq
  unequal : CompareSign (Symbol symbol.Ne ∷ []) compare.Ne
  within : CompareSign (Symbol symbol.In ∷ []) compare.In
  outside : CompareSign (Symbol symbol.Not ∷ Symbol symbol.In ∷ []) compare.NotIn

-- Behind `is None` the chain goes on.
pub data CompareTail (S : Spelling Expr) : List Word → Comparisons → Type 0 where
  tail : {u v : List Word} {op : CmpOp} {x : Expr} → CompareSign u op → S v x → CompareTail S (u ++ v) (made.Op op x)
  none : CompareTail S (Symbol symbol.Is ∷ Symbol symbol.None ∷ []) made.IsNone
  some : CompareTail S (Symbol symbol.Is ∷ Symbol symbol.Not ∷ Symbol symbol.None ∷ []) made.IsNotNone

pub data Compare (S : Spelling Expr) : List Word → Expr → Type 0 where
  alone : {u : List Word} {x : Expr} → S u x → Compare S u x
  chain : {u v : List Word} {x : Expr} {y : Comparisons} {ys : List Comparisons} → S u x → Parts (CompareTail S) v (y ∷ ys)
      → Compare S (u ++ v) (expr.Compare x (y ∷ ys))

-- ---- not, and, or

-- so many `not`
pub data Nots : List Word → ℕ → Type 0 where
  none : Nots [] 0
  more : {u : List Word} {n : ℕ} → Nots u n → Nots (Symbol symbol.Not ∷ u) (suc n)

pub data Not (S : Spelling Expr) : List Word → Expr → Type 0 where
  alone : {u : List Word} {x : Expr} → S u x → Not S u x
  nots : {u v : List Word} {n : ℕ} {x : Expr} → Nots u (suc n) → S v x → Not S (u ++ v) (expr.Not (suc n) x)

pub data AndTail (S : Spelling Expr) : List Word → Expr → Type 0 where
  tail : {u : List Word} {x : Expr} → S u x → AndTail S (Symbol symbol.And ∷ u) x

pub data And (S : Spelling Expr) : List Word → Expr → Type 0 where
  alone : {u : List Word} {x : Expr} → S u x → And S u x
  chain : {u v : List Word} {x y : Expr} {ys : List Expr} → S u x → Parts (AndTail S) v (y ∷ ys) → And S (u ++ v) (expr.And (x ∷ y ∷ ys))

pub data OrTail (S : Spelling Expr) : List Word → Expr → Type 0 where
  tail : {u : List Word} {x : Expr} → S u x → OrTail S (Symbol symbol.Or ∷ u) x

pub data Or (S : Spelling Expr) : List Word → Expr → Type 0 where
  alone : {u : List Word} {x : Expr} → S u x → Or S u x
  chain : {u v : List Word} {x y : Expr} {ys : List Expr} → S u x → Parts (OrTail S) v (y ∷ ys) → Or S (u ++ v) (expr.Or (x ∷ y ∷ ys))

-- ---- conditionals

-- an arm, up to the `else` behind it
pub data ArmText (S : Spelling Expr) : List Word → Arm → Type 0 where
  arm : {u v : List Word} {value test : Expr} → S u value → S v test
      → ArmText S (u ++ Symbol symbol.If ∷ v ++ Symbol symbol.Else ∷ []) (roll-Arm (record { value = value; test = test }))

pub data Conditional (S : Spelling Expr) : List Word → Expr → Type 0 where
  alone : {u : List Word} {x : Expr} → S u x → Conditional S u x
  chain : {u v : List Word} {y : Arm} {ys : List Arm} {x : Expr} → Parts (ArmText S) u (y ∷ ys) → S v x → Conditional S (u ++ v) (expr.Cond (y ∷ ys) x)
