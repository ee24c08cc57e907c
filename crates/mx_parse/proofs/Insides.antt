-- What stands inside of a formula takes tokens.
use Rattle.std.proofs.Common.{ℕ, Bool, true, false, List}
use Rattle.mx_syntax.specs.declared.expr.Expr.{Expr}
use Rattle.mx_syntax.specs.declared.stmt.Stmt.{Stmt}
use Rattle.mx_grammar.specs.Reading.{Parser}
use Rattle.mx_grammar.proofs.Meets.{Shorter}
use Rattle.mx_grammar.proofs.LoopCode.{Within}
use Rattle.mx_parse.specs.declared.statement.Inside.{Inside}
use Rattle.mx_parse.specs.StatementParsers.{elif, statement, statement_turn}
use Rattle.mx_parse.specs.Insides.{display_by, expression_in, display_in, block_in, body_in}
use Rattle.mx_parse.proofs.StatementLengths.{elif_shorter, statement_shorter, turn_shorter, body_by_within, block_within}
use Rattle.mx_expression.proofs.ExpressionRules.{expression_within}
use Rattle.mx_parse.proofs.DisplayCode.{display_within}

display_by_within : (b : Bool) (p : Parser Expr) → Within p → Within (display_by b p)
unfolding display_by
display_by_within true p h = display_within p h
display_by_within false p h = λ ts rest a e. absurd cc

pub shown_within : (inside : Inside) → Within (display_in inside)
shown_within inside = display_by_within inside.displays (expression_in inside) (expression_within inside.brackets)

pub body_within : (inside : Inside) (n : ℕ) → Within (body_in inside n)
body_within inside n =
    body_by_within (expression_in inside) (display_in inside) (expression_within inside.brackets) (shown_within inside) (block_in inside n) (block_within (expression_in inside) (display_in inside) (expression_within inside.brackets) (shown_within inside) n)

pub elif_takes : (inside : Inside) (n : ℕ) → Shorter (elif (expression_in inside) (body_in inside n))
elif_takes inside n = elif_shorter (expression_in inside) (display_in inside) (expression_within inside.brackets) (shown_within inside) (body_in inside n) (body_within inside n)

pub turn_takes : (inside : Inside) (n : ℕ) (found : List Stmt) → Shorter (statement_turn (expression_in inside) (display_in inside) (body_in inside n) found)
turn_takes inside n found = turn_shorter (expression_in inside) (display_in inside) (expression_within inside.brackets) (shown_within inside) (body_in inside n) (body_within inside n) found

pub statement_takes : (inside : Inside) (n : ℕ) → Shorter (statement (expression_in inside) (display_in inside) (body_in inside n))
statement_takes inside n = statement_shorter (expression_in inside) (display_in inside) (expression_within inside.brackets) (shown_within inside) (body_in inside n) (body_within inside n)
