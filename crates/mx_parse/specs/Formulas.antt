-- The languages of formulas and of the parameters of spaces.
use Rattle.std.specs.Prelude.{ℕ, ◌+◌, List}
use Rattle.mx_value.specs.declared.value.Value.{Value}
use Rattle.mx_syntax.specs.declared.expr.Expr.{Expr}
use Rattle.mx_syntax.specs.declared.stmt.ItemEntry.{ItemEntry}
use Rattle.mx_syntax.specs.declared.stmt.Formula.{Formula}
use Rattle.mx_syntax.specs.declared.stmt.Params.{Params}
use Rattle.mx_grammar.specs.Grammar.{Spelling, Never, Within}
use Rattle.mx_grammar.specs.Spelling.{Language}
use Rattle.mx_grammar.specs.Literals.{Literal}
use Rattle.mx_expression.specs.Expressions.{Expressions}
use Rattle.mx_parse.specs.Parameters.{Parameters, SomeParameters}
use Rattle.mx_parse.specs.Displays.{Display}
use Rattle.mx_parse.specs.Statements.{Bodies, FormulaText, ParamsText}

-- what stands inside, with brackets in so many levels and one more
abbrev pub literals_in : ℕ → Spelling Value
literals_in levels = Within Literal (levels + 1)

abbrev pub expressions_in : ℕ → Spelling Expr
expressions_in levels = Expressions (levels + 1)

abbrev pub displays_in : ℕ → Spelling (List ItemEntry)
displays_in levels = Display (expressions_in levels)

-- the formula of cells, which returns no display
abbrev pub formula_text : Language Formula
formula_text levels = FormulaText (Parameters (literals_in levels)) (expressions_in levels) (Bodies (expressions_in levels) Never (levels + 1))

-- the parameters of a space, at least one
abbrev pub params_text : Language Params
params_text levels = ParamsText (SomeParameters (literals_in levels)) (expressions_in levels) (displays_in levels) (Bodies (expressions_in levels) (displays_in levels) (levels + 1))
