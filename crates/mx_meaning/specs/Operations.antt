-- What operators make of values that were computed.
use Rattle.std.specs.Prelude.{ℕ, zero, suc, List, [], ◌∷◌, Ok, Err}
use Rattle.mx_value.specs.declared.value.Value.{Value}
use Rattle.mx_syntax.specs.declared.expr.CmpOp.{CmpOp}
use Rattle.mx_syntax.specs.declared.expr.CmpOp.TheVariants as comparison
use Rattle.mx_syntax.specs.declared.expr.SumOp.{SumOp}
use Rattle.mx_syntax.specs.declared.expr.SumOp.TheVariants as sum
use Rattle.mx_syntax.specs.declared.expr.ProductOp.{ProductOp}
use Rattle.mx_syntax.specs.declared.expr.ProductOp.TheVariants as product
use Rattle.mx_syntax.specs.declared.expr.Sign.{Sign}
use Rattle.mx_syntax.specs.declared.expr.Sign.TheVariants as sign
use Rattle.mx_syntax.specs.declared.stmt.ArithOp.{ArithOp}
use Rattle.mx_syntax.specs.declared.stmt.ArithOp.TheVariants as arithmetic
use Rattle.mx_syntax.specs.declared.op.Op.{Op}
use Rattle.mx_syntax.specs.declared.op.Op.TheVariants as op
use Rattle.mx_ops.specs.Answers.{Answer}
use Rattle.mx_ops.specs.Table.{gives}

-- ---- the operators that the parts of a tree stand for

-- the operator of a comparison
abbrev pub comparing : CmpOp → Op
comparing comparison.Lt = op.Lt
comparing comparison.Le = op.Le
comparing comparison.Gt = op.Gt
comparing comparison.Ge = op.Ge
comparing comparison.Eq = op.Eq
comparing comparison.Ne = op.Ne
comparing comparison.In = op.In
comparing comparison.NotIn = op.NotIn

-- the operator that joins a part to a sum
abbrev pub adding : SumOp → Op
adding sum.Plus = op.Add
adding sum.Minus = op.Sub

-- the operator that joins a part to a product
abbrev pub multiplying : ProductOp → Op
multiplying product.Times = op.Mul
multiplying product.Over = op.Div
multiplying product.Floor = op.FloorDiv
multiplying product.Rem = op.Rem

-- the operator of a sign
abbrev pub signing : Sign → Op
signing sign.Plus = op.Plus
signing sign.Minus = op.Neg

-- the operator of a statement that changes a local
abbrev pub changing : ArithOp → Op
changing arithmetic.Add = op.Add
changing arithmetic.Sub = op.Sub
changing arithmetic.Mul = op.Mul

-- ---- what they give

-- what comes of a value; the first fault stands
abbrev pub and_then : Answer → (Value → Answer) → Answer
and_then (Ok v) f = f v
and_then (Err kind) f = Err kind

-- what an operator gives for two values
abbrev pub of_two : Op → Value → Value → Answer
of_two op a b = gives op (a ∷ b ∷ [])

-- a value with so many `not` before it
abbrev pub denied : ℕ → Value → Answer
denied zero v = Ok v
denied (suc count) v = and_then (denied count v) (λ w. gives op.Not (w ∷ []))

-- a value with signs before it, of which the last applies first
abbrev pub signed : List Sign → Value → Answer
signed [] v = Ok v
signed (s ∷ signs) v = and_then (signed signs v) (λ w. gives (signing s) (w ∷ []))

-- A base with further parts of a power, each with the signs before it: joined from the right, and the signs of a part
-- apply to the power of that part with all parts to its right.
abbrev pub powered : Value → List (List Sign × Value) → Answer
powered base [] = Ok base
powered base (p ∷ parts) = and_then (and_then (powered p.1 parts) (signed p.0)) (of_two op.Pow base)
