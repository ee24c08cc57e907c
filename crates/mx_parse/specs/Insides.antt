-- The parsers of what stands inside of a formula, and a function value that parses blocks in so many levels.
use Rattle.std.specs.Prelude.{ℕ, ◌+◌, Bool, true, false, List, Result}
use Rattle.std.specs.declared.alloc.Global.{Global}
use denote.Ref.{MutBor}
use Rattle.mx_syntax.specs.declared.expr.Expr.{Expr}
use Rattle.mx_syntax.specs.declared.stmt.Stmt.{Stmt}
use Rattle.mx_syntax.specs.declared.stmt.ItemEntry.{ItemEntry}
use Rattle.mx_syntax.specs.declared.stmt.Param.{Param}
use Rattle.mx_syntax.specs.declared.stmt.Formula.{Formula}
use Rattle.mx_syntax.specs.declared.stmt.Params.{Params}
use Rattle.mx_grammar.specs.declared.trouble.Trouble.{Trouble}
use Rattle.mx_grammar.specs.Reading.{Words, Parser, refuse, Reads}
use Rattle.mx_parse.specs.declared.statement.Inside.{Inside}
use Rattle.mx_expression.specs.ExpressionParsers.{expression}
use Rattle.mx_parse.specs.ParameterParsers.{parameters, some_parameters}
use Rattle.mx_parse.specs.DisplayParsers.{display}
use Rattle.mx_parse.specs.StatementParsers.{block, body, formula, space_params}

-- a display where one may be returned
unfoldable pub display_by : Bool → Parser Expr → Parser (List ItemEntry)
display_by true expression = display expression
display_by false expression = refuse

abbrev pub expression_in : Inside → Parser Expr
expression_in inside = expression inside.brackets

abbrev pub parameters_in : Inside → Parser (List Param)
parameters_in inside = parameters inside.brackets

abbrev pub some_parameters_in : Inside → Parser (List Param)
some_parameters_in inside = some_parameters inside.brackets

abbrev pub display_in : Inside → Parser (List ItemEntry)
display_in inside = display_by inside.displays (expression_in inside)

abbrev pub block_in : Inside → ℕ → Parser (List Stmt)
block_in inside = block (expression_in inside) (display_in inside)

abbrev pub body_in : Inside → ℕ → Parser (List Stmt)
body_in inside = body (expression_in inside) (display_in inside)

-- cells return no display
abbrev pub of_cells : ℕ → Inside
of_cells n = record { brackets = n + 1; displays = false }

abbrev pub of_spaces : ℕ → Inside
of_spaces n = record { brackets = n + 1; displays = true }

abbrev pub formula_by : ℕ → Parser Formula
formula_by n = formula (parameters_in (of_cells n)) (expression_in (of_cells n)) (body_in (of_cells n) (n + 1))

abbrev pub params_by : ℕ → Parser Params
params_by n = space_params (some_parameters_in (of_spaces n)) (expression_in (of_spaces n)) (display_in (of_spaces n)) (body_in (of_spaces n) (n + 1))

pub record Nests (inside : Inside) (levels : ℕ) (pre : Global → MutBor Words → Inside → ℕ → Type 0)
    (post : Global → MutBor Words → Inside → ℕ → Result (List Stmt) Trouble → MutBor Words → Type 0) : Type 0 where
  pub callable : (alloc : Global) (old : MutBor Words) → pre alloc old inside levels
  pub reads : (alloc : Global) (old new : MutBor Words) (r : Result (List Stmt) Trouble) → post alloc old inside levels r new
      → Reads (block_in inside levels old.now) r new.now
