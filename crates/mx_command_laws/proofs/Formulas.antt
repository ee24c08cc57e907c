-- The literals and defaults of formulas and parameter lists that are spelled are arguments.
use Rattle.std.proofs.Common.{◌≡◌, ℕ, ◌+◌, ◌≤◌, List, [], ◌∷◌, ◌++◌, Some, ◌∙◌, ap, subst, refl, arith}
use Rattle.mx_syntax.specs.Binding.{defaults}
use Rattle.mx_syntax.specs.declared.stmt.Stmt.TheVariants as stmt
use Rattle.mx_syntax.specs.declared.stmt.Param.{Param}
use Rattle.mx_syntax.specs.declared.stmt.Formula.{Formula}
use Rattle.mx_syntax.specs.declared.stmt.Params.{Params}
use Rattle.mx_grammar.specs.declared.nesting.Open.{Open}
use Rattle.mx_grammar.specs.declared.word.Word.{Word}
use Rattle.mx_grammar.specs.declared.word.Word.TheVariants.{Name, Symbol}
use Rattle.mx_grammar.specs.declared.word.Symbol.TheVariants as symbol
use Rattle.mx_grammar.specs.Grammar.{Never}
use Rattle.mx_grammar.specs.Spelling.{Shallow, unopened, bracketed, words_of}
use Rattle.mx_parse.specs.Following.{Following}
use Rattle.mx_parse.specs.Parameters.{ParamText, Parameters, SomeParameters}
use Rattle.mx_parse.specs.Statements.{FormulaText, ParamsText}
use Rattle.mx_parse.specs.Formulas.{literals_in, expressions_in, displays_in, formula_text, params_text}
use Rattle.mx_round_trip.proofs.Counts.{IsClosed, closed_append, behind_closed, shallow_split}
use Rattle.mx_round_trip.proofs.Weights.{weights, weights_append, source_weights}
use Rattle.mx_limit_laws.specs.Literals.{body_literals, formula_literals, params_literals}
use Rattle.mx_command_laws.specs.Sources.{FormulasAreSmall, ParamsAreSmall}
use Rattle.mx_command_laws.proofs.Words.{AreShort, words_short}
use Rattle.mx_command_laws.proofs.Literals.{within_measured, measured_argument}
use Rattle.mx_command_laws.proofs.Expressions.{AreLiterals, Small, both_small, expressions_small}
use Rattle.mx_command_laws.proofs.Statements.{display_small, bodies_small, value_small, item_small}

-- ---- parameters

-- a parameter closes what it opens, and its default is an argument
record IsSmallParam (u : List Word) (p : Param) : Type 0 where
  closed : IsClosed u
  default : weights u ≤ 65536 → (n : Open) → Shallow 64 n u → (ps : List Param) → AreLiterals (defaults ps) → AreLiterals (defaults (p ∷ ps))

module _ (levels : ℕ) where
  param_small : (before : List Param) (u : List Word) (p : Param) → ParamText (literals_in levels) before u p → IsSmallParam u p
  param_small before _ _ (ParamText.required {n} new none) = record { closed = record { same = λ m. refl }; default = λ few m s ps h. h }
  param_small before _ _ (ParamText.optional {n} {u} {value} new h) =
      let m = within_measured (levels + 1) u value h in
      record {
        closed = closed_append {us = Name n ∷ Symbol symbol.Assign ∷ []} (record { same = λ k. refl }) m.closed;
        default = λ few k s ps l. (measured_argument u value k m (omega arith) s.1.1, l);
      }

  following_small : (before : List Param) (u : List Word) (ps : List Param) (n : Open) → Following (ParamText (literals_in levels)) before u ps → weights u ≤ 65536 → Shallow 64 n u → AreLiterals (defaults ps)
  following_small before _ _ n Following.none few s = tt
  following_small before _ _ n (Following.one {u = u} {x = p} h) few s = (param_small before u p h).default few n s [] tt
  following_small before _ _ n (Following.more {u = u} {v = v} {x = p} {xs = ps} h k) few s =
      let one = param_small before u p h in
      let parts = behind_closed 64 n u (Symbol symbol.Comma ∷ v) one.closed s in
      let sum = weights_append u (Symbol symbol.Comma ∷ v) in
      one.default (omega arith) n parts.0 ps (following_small (before ++ p ∷ []) v ps n k (omega arith) parts.1.1)

  round_small : (u : List Word) (ps : List Param) → Following (ParamText (literals_in levels)) [] u ps → weights (Symbol symbol.OpenRound ∷ u ++ Symbol symbol.CloseRound ∷ []) ≤ 65536 → Shallow 64 unopened (Symbol symbol.OpenRound ∷ u ++ Symbol symbol.CloseRound ∷ []) → AreLiterals (defaults ps)
  round_small u ps h few s =
      let sum = weights_append u (Symbol symbol.CloseRound ∷ []) in
      following_small [] u ps (bracketed unopened) h (omega arith) (shallow_split 64 (bracketed unopened) u (Symbol symbol.CloseRound ∷ []) s.1).0

  parameters_small : (u : List Word) (ps : List Param) → Parameters (literals_in levels) u ps → weights u ≤ 65536 → Shallow 64 unopened u → AreLiterals (defaults ps)
  parameters_small _ _ (Parameters.parameters {u = u} {params = ps} h) few s = round_small u ps h few s

  some_parameters_small : (u : List Word) (ps : List Param) → SomeParameters (literals_in levels) u ps → weights u ≤ 65536 → Shallow 64 unopened u → AreLiterals (defaults ps)
  some_parameters_small _ _ (SomeParameters.parameters {u = u} {param = p} {others = ps} h) few s = round_small u (p ∷ ps) h few s

  -- the parameters stand first
  record Front (u v : List Word) : Type 0 where
    few : weights u ≤ 65536
    shallow : Shallow 64 unopened u
    short : AreShort v

  front : (u v : List Word) → weights (u ++ v) ≤ 65536 → Shallow 64 unopened (u ++ v) → Front u v
  front u v few s =
      let sum = weights_append u v in
      record { few = omega arith; shallow = (shallow_split 64 unopened u v s).0; short = words_short v (omega arith) }

  -- a text of one line
  line_front : (u v : List Word) → weights (u ++ v ++ Symbol symbol.Newline ∷ []) ≤ 65536 → Shallow 64 unopened (u ++ v ++ Symbol symbol.Newline ∷ []) → Front u v
  line_front u v few s =
      let sum = weights_append (u ++ v) (Symbol symbol.Newline ∷ []) in
      front u v (omega arith) (shallow_split 64 unopened (u ++ v) (Symbol symbol.Newline ∷ []) s).0

  -- ---- whole texts

  part : Small (expressions_in levels)
  part = expressions_small (levels + 1)

  formula_small : (u : List Word) (f : Formula) → weights u ≤ 65536 → Shallow 64 unopened u → formula_text levels u f → AreLiterals (formula_literals f)
  formula_small _ _ few s (FormulaText.value {u} {v} {params} {x} h k) =
      let p = line_front u (Symbol symbol.Assign ∷ v) few s in
      both_small (defaults params) (body_literals (stmt.Return (Some x) ∷ [])) (parameters_small u params h p.few p.shallow)
      (value_small (expressions_in levels) part Never (λ w y a n. absurd n) v x p.short.1 k)
  formula_small _ _ few s (FormulaText.body {u} {v} {params} {body} h k) =
      let p = front u (Symbol symbol.Colon ∷ v) few s in
      both_small (defaults params) (body_literals body) (parameters_small u params h p.few p.shallow) (bodies_small (expressions_in levels) part Never (λ w y a n. absurd n) (levels + 1) v body p.short.1 k)

  params_small : (u : List Word) (ps : Params) → weights u ≤ 65536 → Shallow 64 unopened u → params_text levels u ps → AreLiterals (params_literals ps)
  params_small _ _ few s (ParamsText.alone {u} {params} h) =
      let p = front u (Symbol symbol.Newline ∷ []) few s in
      both_small (defaults params) [] (some_parameters_small u params h p.few p.shallow) tt
  params_small _ _ few s (ParamsText.value {u} {v} {params} {x} h k) =
      let p = line_front u (Symbol symbol.Assign ∷ v) few s in
      both_small (defaults params) (body_literals (stmt.Return (Some x) ∷ [])) (some_parameters_small u params h p.few p.shallow)
      (value_small (expressions_in levels) part (displays_in levels) (display_small (expressions_in levels) part) v x p.short.1 k)
  params_small _ _ few s (ParamsText.item {u} {v} {params} {entries} h k) =
      let p = line_front u (Symbol symbol.Assign ∷ v) few s in
      both_small (defaults params) (body_literals (stmt.ReturnItem entries ∷ [])) (some_parameters_small u params h p.few p.shallow)
      (item_small (expressions_in levels) part (displays_in levels) (display_small (expressions_in levels) part) v entries p.short.1 k)
  params_small _ _ few s (ParamsText.body {u} {v} {params} {body} h k) =
      let p = front u (Symbol symbol.Colon ∷ v) few s in
      both_small (defaults params) (body_literals body) (some_parameters_small u params h p.few p.shallow)
      (bodies_small (expressions_in levels) part (displays_in levels) (display_small (expressions_in levels) part) (levels + 1) v body p.short.1 k)

-- the text before END
before_end : (ws text : List Word) → ws ≡ text ++ Symbol symbol.End ∷ [] → weights ws ≤ 65536 → Shallow 64 unopened ws → (weights text ≤ 65536) × Shallow 64 unopened text
before_end ws text is few s =
    let total : weights ws ≡ weights text + weights (Symbol symbol.End ∷ []) = ap weights is ∙ weights_append text (Symbol symbol.End ∷ []) in
    (omega arith, (shallow_split 64 unopened text (Symbol symbol.End ∷ []) (subst (Shallow 64 unopened) is s)).0)

pub formulas_are_small : FormulasAreSmall
formulas_are_small source f h =
    let b = before_end (words_of source h.tokens) h.spells.text h.spells.parts (source_weights source h.tokens h.lexed) h.shallow in
    formula_small h.spells.levels h.spells.text f b.0 b.1 h.spells.spelled

pub params_are_small : ParamsAreSmall
params_are_small source ps h =
    let b = before_end (words_of source h.tokens) h.spells.text h.spells.parts (source_weights source h.tokens h.lexed) h.shallow in
    params_small h.spells.levels h.spells.text ps b.0 b.1 h.spells.spelled
