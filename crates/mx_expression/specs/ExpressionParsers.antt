-- What the code of expressions computes.
use Rattle.std.specs.Prelude.{ℕ, zero, suc}
use Rattle.mx_syntax.specs.declared.expr.Expr.{Expr}
use Rattle.mx_grammar.specs.Reading.{Parser, refuse}
use Rattle.mx_expression.specs.OperandParsers.{signed_of}
use Rattle.mx_expression.specs.ChainParsers.{product, sum, compare, negated, both, either, or_from, conditional}

-- an `or` with brackets in so many levels
unfoldable pub ors : ℕ → Parser Expr
ors zero = refuse
ors (suc n) = or_from (signed_of n (conditional (ors n)) (ors n))

unfoldable pub expression : ℕ → Parser Expr
expression n = conditional (ors n)

-- an operand with its signs, where brackets may open in so many levels
abbrev pub signed : ℕ → Parser Expr
signed n = signed_of n (expression n) (ors n)

abbrev pub products : ℕ → Parser Expr
products n = product (signed n)

abbrev pub sums : ℕ → Parser Expr
sums n = sum (products n)

abbrev pub compares : ℕ → Parser Expr
compares n = compare (sums n)

abbrev pub negations : ℕ → Parser Expr
negations n = negated (compares n)

abbrev pub conjunctions : ℕ → Parser Expr
conjunctions n = both (negations n)

abbrev pub disjunctions : ℕ → Parser Expr
disjunctions n = either (conjunctions n)
