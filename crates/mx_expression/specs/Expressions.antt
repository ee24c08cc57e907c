-- Expressions.
use Rattle.std.specs.Prelude.{ℕ}
use Rattle.mx_syntax.specs.declared.expr.Expr.{Expr}
use Rattle.mx_grammar.specs.Grammar.{Spelling, Within, Line}
use Rattle.mx_grammar.specs.Spelling.{Language}
use Rattle.mx_expression.specs.Operands.{SignedOf}
use Rattle.mx_expression.specs.Chains.{Product, Sum, Compare, Not, And, Or, Conditional}

-- an `or`, from what spells its operands with their signs
abbrev pub OrOf : Spelling Expr → Spelling Expr
OrOf S = Or (And (Not (Compare (Sum (Product S)))))

-- an `or`, with brackets in so many levels
abbrev pub Ors : ℕ → Spelling Expr
Ors = Within (λ In. OrOf (SignedOf (Conditional In) In))

abbrev pub Expressions : ℕ → Spelling Expr
Expressions levels = Conditional (Ors levels)

-- ---- whole texts

abbrev pub expression_text : Language Expr
expression_text levels = Line (Expressions levels)
