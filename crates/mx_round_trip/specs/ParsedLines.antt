-- The lines of a printed text, cut at its line feeds, and the statements at them.
use Rattle.std.specs.Prelude.{◌≡◌, ℕ, ◌+◌, List, [], ◌∷◌, ◌++◌, Option, None, Some, map, codes}
use Rattle.mx_syntax.specs.declared.stmt.Stmt.{Stmt}
use Rattle.mx_syntax.specs.declared.stmt.Stmt.TheVariants as stmt
use Rattle.mx_syntax.specs.declared.stmt.IfArm.{IfArm}
use Rattle.mx_syntax.specs.declared.stmt.Param.{Param}
use Rattle.mx_print.specs.Texts.{Text}
use Rattle.mx_print.specs.Statements.{params_text, stmt_lines, returned, one_line, formula_lines}
use Rattle.mx_syntax.specs.Heights.{arms_height, first_line}
use Rattle.mx_print.specs.Lines.{AtLine, Stands, arm_head, is_first, split}

-- The statement stands at line 1, the only line: the parameters, and behind the `=` what it returns.
pub record StandsAlone (lines : List Text) (params : List Param) (line : ℕ) (stmt : Stmt) (shown : Text) : Type 0 where
  pub place : line ≡ 1
  pub shows : returned stmt ≡ Some shown
  pub whole : lines ≡ (params_text params ++ (codes " = " ++ shown)) ∷ []

-- Cut at its line feeds, the text is the lines of this formula. Each statement stands in it at its line, and so does each arm's test of an
-- `if`, below the arms before it. In a formula of one line the statement is that line's.
pub record HasItsLines (text : Text) (params : List Param) (body : List Stmt) : Type 0 where
  pub lines : split text ≡ formula_lines params body
  pub statements : (line : ℕ) (stmt : Stmt) → one_line (map returned body) ≡ None → AtLine (first_line body) body line stmt → Stands 1 (split text) line (stmt_lines stmt)
  pub tests : (line : ℕ) (arms more : List IfArm) (a : IfArm) (other : Option (List Stmt)) → AtLine (first_line body) body line (stmt.If (arms ++ a ∷ more) other)
      → Stands 1 (split text) (line + arms_height arms) (arm_head (is_first arms) a ∷ [])
  pub alone : (line : ℕ) (stmt : Stmt) (shown : Text) → one_line (map returned body) ≡ Some shown → AtLine (first_line body) body line stmt → StandsAlone (split text) params line stmt shown
