-- The parsers of formulas and of the parameters of spaces are exact for their languages.
use Rattle.std.proofs.Common.{◌≡◌, ℕ, suc, ◌+◌, ◌≤◌, Bool, true, false, List, [], ◌∷◌, ◌++◌, refl, subst, arith}
use Rattle.mx_value.specs.declared.value.Value.TheVariants as value
use Rattle.mx_syntax.specs.declared.expr.Expr.{Expr}
use Rattle.mx_syntax.specs.declared.stmt.Stmt.{Stmt}
use Rattle.mx_syntax.specs.declared.stmt.ItemEntry.{ItemEntry}
use Rattle.mx_grammar.specs.declared.word.Symbol.TheVariants as symbol
use Rattle.mx_grammar.specs.declared.word.Word.TheVariants.{Symbol}
use Rattle.mx_grammar.specs.Words.{is}
use Rattle.mx_grammar.specs.Literals.{Literal}
use Rattle.mx_grammar.specs.LiteralParsers.{literal}
use Rattle.mx_grammar.specs.Reading.{Parser}
use Rattle.mx_grammar.proofs.Exact.{Rel, none, Exists, Never}
use Rattle.mx_grammar.proofs.Meets.{fewer_meets}
use Rattle.mx_grammar.proofs.Symbols.{apart, unlike}
use Rattle.mx_grammar.proofs.Rules.{Knot, Rule, plain, refuse_rule}
use Rattle.mx_grammar.proofs.Texts.{Exactly}
use Rattle.mx_grammar.proofs.LiteralRules.{Literals}
use Rattle.mx_grammar.proofs.LiteralRules as literals
use Rattle.mx_expression.specs.Expressions.{Expressions}
use Rattle.mx_expression.specs.ExpressionParsers.{expression}
use Rattle.mx_expression.proofs.ExpressionRules.{follows, begins, expressions_begin, some_expression, between_expressions, level}
use Rattle.mx_parse.specs.ParameterParsers.{parameters, some_parameters}
use Rattle.mx_parse.specs.Displays.{Display}
use Rattle.mx_parse.specs.DisplayParsers.{display}
use Rattle.mx_parse.specs.Statements.{Blocks, Bodies}
use Rattle.mx_parse.specs.StatementParsers.{block, body_by, formula, space_params}
use Rattle.mx_parse.specs.Insides.{display_by, formula_by, params_by}
use Rattle.mx_parse.specs.Formulas.{formula_text, params_text}
use Rattle.mx_parse.proofs.ParameterRules.{parameters_rule, some_parameters_rule, some_parameters_text, some_some_parameters}
use Rattle.mx_parse.proofs.DisplayRules.{display_rule, display_begins}
use Rattle.mx_parse.proofs.StatementRules.{Expressive, Displays}
use Rattle.mx_parse.proofs.BlockRules.{with_rule, body_level, some_body}
use Rattle.mx_parse.proofs.FormulaRules.{formula_rule, space_params_rule, some_formula, some_space_params}

some_inside : (n : ℕ) → Exists (Expressions (n + 1))
some_inside n = let e : suc n ≡ n + 1 = omega arith in subst (λ (k : ℕ). Exists (Expressions k)) e (some_expression n)

some_literal : (n : ℕ) → Exists (Literals (n + 1))
some_literal n = let e : suc n ≡ n + 1 = omega arith in subst (λ (k : ℕ). Exists (Literals k)) e (record { tokens = Symbol symbol.None ∷ []; tree = value.Nothing; spells = Literal.none })

expressive : (n : ℕ) → Expressive follows (Expressions (n + 1))
expressive n = record {
  colon = refl;
  newline = refl;
  some = some_inside n;
  no_newline = λ u rest x h. apart begins (is symbol.Newline) (unlike begins symbol.Newline refl) (u ++ rest) (expressions_begin (n + 1) u rest x h);
  no_curly = λ u rest x h. apart begins (is symbol.OpenCurly) (unlike begins symbol.OpenCurly refl) (u ++ rest) (expressions_begin (n + 1) u rest x h);
}

-- the display that may be returned
abbrev DisplayBy : Bool → Rel Expr → Rel (List ItemEntry)
DisplayBy true E = Display E
DisplayBy false E = Never

shown : (displays : Bool) (E : Rel Expr) → Displays (DisplayBy displays E)
shown true E = display_begins E (is symbol.OpenCurly) true refl
shown false E = λ u rest entries h. absurd h

item_rule : (displays : Bool) (n m : ℕ) → n ≤ m → Rule (between_expressions (n + 1) (m + 1)) (n + 1) (plain none) (DisplayBy displays (Expressions (n + 1))) (λ (i : ℕ). display_by displays (expression i))
unfolding display_by
item_rule true n m le = let r = display_rule refl refl (some_inside n) (level (n + 1) (m + 1) (omega arith)) in record { exact = r.exact; meets = r.meets }
item_rule false n m le = refuse_rule (plain none)

literal_rule : (n m : ℕ) → n ≤ m → Rule (between_expressions (n + 1) (m + 1)) (n + 1) (plain none) (Literals (n + 1)) literal
literal_rule n m le = let r = literals.level (n + 1) (m + 1) (omega arith) in record { exact = r.exact; meets = r.meets }

module _ (displays : Bool) (n m : ℕ) (le : n ≤ m) where
  abbrev E : Rel Expr
  E = Expressions (n + 1)

  abbrev Item : Rel (List ItemEntry)
  Item = DisplayBy displays E

  abbrev shows : ℕ → Parser (List ItemEntry)
  shows i = display_by displays (expression i)

  abbrev blocks : ℕ → Parser (List Stmt)
  blocks k = block (expression (k + 1)) (shows (k + 1)) (k + 1)

  abbrev inside : Knot (ℕ × Parser (List Stmt))
  inside = record { inner = (n + 1, blocks n); more = (m + 1, blocks m) }

  ex : Rule inside (n + 1) (plain follows) E (λ (i : ℕ × Parser (List Stmt)). expression i.0)
  ex = with_rule (blocks n) (blocks m) (level (n + 1) (m + 1) (omega arith))

  item : Rule inside (n + 1) (plain none) Item (λ (i : ℕ × Parser (List Stmt)). shows i.0)
  item = with_rule (blocks n) (blocks m) (item_rule displays n m le)

  body : Rule inside (n + 1) (plain none) (Bodies E Item (n + 1)) (λ (i : ℕ × Parser (List Stmt)). body_by (expression i.0) (shows i.0) i.1)
  body =
      let r = body_level {K = between_expressions (n + 1) (m + 1)} {expression = expression} {display = shows} (expressive n) (level (n + 1) (m + 1) (omega arith)) (shown displays E) (item_rule displays n m le) (n + 1) (m + 1) (omega arith) (omega arith) in
      record { exact = r.exact; meets = r.meets }

  some_bodies : Exists (Bodies E Item (n + 1))
  some_bodies = some_body E Item (Blocks E Item (n + 1))

-- ---- formulas

formula_rule_of : (n m : ℕ) → (le : n ≤ m) → Rule (inside false n m le) (n + 1) (plain none) (formula_text n)
    (λ (i : ℕ × Parser (List Stmt)). formula (parameters i.0) (expression i.0) (body_by (expression i.0) (display_by false (expression i.0)) i.1))
formula_rule_of n m le =
    let r = formula_rule (expressive n) (ex false n m le) (shown false (Expressions (n + 1))) (item false n m le) (some_bodies false n m le) (body false n m le)
    (with_rule (blocks false n m le n) (blocks false n m le m) (parameters_rule (some_literal n) (literal_rule n m le))) in
    record { exact = r.exact; meets = r.meets }

some_at : (n : ℕ) → Exists (formula_text n)
some_at n = some_formula (some_parameters_text (Literals (n + 1))) (some_bodies false n n (omega arith))

pub formulas : Exactly formula_text formula_by
formulas = record {
  exact = λ n. (formula_rule_of n n (omega arith)).exact;
  meets = λ n m le. fewer_meets n (n + 1) (formula_by n) (formula_by m) (omega arith) (formula_rule_of n m le).meets;
  some = λ n. some_at (suc n);
}

-- ---- the parameters of spaces

params_rule_of : (n m : ℕ) → (le : n ≤ m) → Rule (inside true n m le) (n + 1) (plain none) (params_text n)
    (λ (i : ℕ × Parser (List Stmt)). space_params (some_parameters i.0) (expression i.0) (display_by true (expression i.0)) (body_by (expression i.0) (display_by true (expression i.0)) i.1))
params_rule_of n m le =
    let r = space_params_rule (expressive n) (ex true n m le) (shown true (Expressions (n + 1))) (item true n m le) (some_bodies true n m le) (body true n m le)
    (with_rule (blocks true n m le n) (blocks true n m le m) (some_parameters_rule (some_literal n) (literal_rule n m le))) in
    record { exact = r.exact; meets = r.meets }

some_params_at : (n : ℕ) → Exists (params_text n)
some_params_at n = some_space_params (some_some_parameters (Literals (n + 1)))

pub space_parameters : Exactly params_text params_by
space_parameters = record {
  exact = λ n. (params_rule_of n n (omega arith)).exact;
  meets = λ n m le. fewer_meets n (n + 1) (params_by n) (params_by m) (omega arith) (params_rule_of n m le).meets;
  some = λ n. some_params_at (suc n);
}
