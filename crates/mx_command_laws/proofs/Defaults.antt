-- The defaults of a formula that is spelled are plain, and nested no deeper than a value may be.
use Rattle.std.proofs.Common.{◌≡◌, ℕ, ◌+◌, ◌≤◌, List, [], ◌∷◌, ◌++◌, Bool, true, false, not, ◌||◌, nat_lt, Option, Some, None, inl, inr, append_assoc, refl, sym, ap, ◌∙◌, subst, arith}
use Rattle.std.specs.List.{cons_option}
use Rattle.mx_value.specs.declared.value.Value.{Value}
use Rattle.mx_value.specs.Plain.{is_plain}
use Rattle.mx_value.specs.Nesting.{nesting_of}
use Rattle.mx_syntax.specs.declared.expr.Expr.{Expr}
use Rattle.mx_syntax.specs.declared.stmt.Stmt.{Stmt}
use Rattle.mx_syntax.specs.declared.stmt.Param.{Param}
use Rattle.mx_syntax.specs.declared.stmt.Formula.{Formula}
use Rattle.mx_syntax.specs.Binding.{defaults}
use Rattle.mx_c3.specs.Lists.{Has}
use Rattle.mx_model.specs.Refused.{is_unfit}
use Rattle.mx_model.specs.Literals.{AreLiteral}
use Rattle.mx_grammar.specs.declared.nesting.Open.{Open}
use Rattle.mx_grammar.specs.declared.word.Word.{Word}
use Rattle.mx_grammar.specs.declared.word.Word.TheVariants as word
use Rattle.mx_grammar.specs.declared.word.Symbol.TheVariants as symbol
use Rattle.mx_grammar.specs.Grammar.{Spelling, Within}
use Rattle.mx_grammar.specs.Literals.{Literal}
use Rattle.mx_grammar.specs.Spelling.{SpellsIn, Shallow, unopened, open_count, bracketed}
use Rattle.mx_parse.specs.Following.{Following}
use Rattle.mx_parse.specs.Parameters.{ParamText, Parameters}
use Rattle.mx_parse.specs.Statements.{FormulaText}
use Rattle.mx_parse.specs.Formulas.{formula_text}
use Rattle.mx_command_laws.proofs.EditLiterals.{Low, within_low}

-- These tokens give these values as defaults, which are plain and not too deep where no more than 64 brackets are open.
-- Behind them no more are open than before.
record Fit (u : List Word) (values : List Value) : Type 0 where
  fit : (n : Open) (rest : List Word) → Shallow 64 n (u ++ rest) → ((v : Value) → Has values v → is_unfit v ≡ false) × Shallow 64 n rest

no_more : (m : ℕ) → m ≤ 64 → nat_lt 64 m ≡ false
no_more m le = grind arith

low_fits : (x : Value) (count : ℕ) → is_plain x ≡ true → count + nesting_of x ≤ 64 → is_unfit x ≡ false
low_fits x count plain low = ap (λ (b : Bool). not b || nat_lt 64 (nesting_of x)) plain ∙ no_more (nesting_of x) (omega arith)

none_fit : Fit [] []
none_fit = record { fit = λ n rest s. (λ v h. absurd h, s) }

one_fits : (u : List Word) (x : Value) → Low u x → Fit u (x ∷ [])
one_fits u x low = record {
  fit = λ n rest s.
      let o = low.nesting 64 n rest s in
      (λ v h. elim h [ inl e ↦ ap is_unfit (sym e) ∙ low_fits x (open_count n) low.plain o.0 | inr none ↦ absurd none ], o.1);
}

-- the defaults of a parameter, and those of others behind it
more_defaults : (p : Param) (params : List Param) → defaults (p ∷ params) ≡ defaults (p ∷ []) ++ defaults params
more_defaults p params = by p.default
  where
    by : (d : Option Value) → cons_option d (defaults params) ≡ cons_option d [] ++ defaults params
    by (Some v) = refl
    by None = refl

has_either : (xs ys : List Value) (v : Value) (P : Type 0) → Has (xs ++ ys) v → (Has xs v → P) → (Has ys v → P) → P
has_either [] ys v P h left right = right h
has_either (x ∷ xs) ys v P h left right = elim h [ inl e ↦ left (inl e) | inr r ↦ has_either xs ys v P r (λ i. left (inr i)) right ]

both_fit : (u w : List Word) (p : Param) (params : List Param) → Fit u (defaults (p ∷ [])) → Fit w (defaults params) → Fit (u ++ word.Symbol symbol.Comma ∷ w) (defaults (p ∷ params))
both_fit u w p params f g = record {
  fit = λ n rest s.
      let first = f.fit n (word.Symbol symbol.Comma ∷ w ++ rest) (subst (Shallow 64 n) (append_assoc u (word.Symbol symbol.Comma ∷ w) rest) s) in
      let others = g.fit n rest first.1.1 in
      (λ v h. has_either (defaults (p ∷ [])) (defaults params) v (is_unfit v ≡ false) (subst (λ (vs : List Value). Has vs v) (more_defaults p params) h) (first.0 v) (others.0 v), others.1);
}

module _ (levels : ℕ) where
  param_fits : (before : List Param) (u : List Word) (p : Param) → ParamText (Within Literal levels) before u p → Fit u (defaults (p ∷ []))
  param_fits before _ _ (ParamText.required {n} new none) = record { fit = λ m rest s. (λ v h. absurd h, s.1) }
  param_fits before _ _ (ParamText.optional {n} {u} {value} new h) = let f = one_fits u value (within_low levels u value h) in record { fit = λ m rest s. f.fit m rest s.1.1 }

  params_fit : (before : List Param) (u : List Word) (params : List Param) → Following (ParamText (Within Literal levels)) before u params → Fit u (defaults params)
  params_fit before _ _ Following.none = none_fit
  params_fit before _ _ (Following.one {u} {x} h) = param_fits before u x h
  params_fit before _ _ (Following.more {u} {v} {x} {xs} h k) = both_fit u v x xs (param_fits before u x h) (params_fit (before ++ x ∷ []) v xs k)

  listed_fit : (u : List Word) (params : List Param) (rest : List Word) → Parameters (Within Literal levels) u params → Shallow 64 unopened (u ++ rest) → AreLiteral params
  listed_fit _ params rest (Parameters.parameters {u} h) s =
      ((params_fit [] u params h).fit (bracketed unopened) (word.Symbol symbol.CloseRound ∷ rest) (subst (Shallow 64 (bracketed unopened)) (append_assoc u (word.Symbol symbol.CloseRound ∷ []) rest) s.1)).0

  formula_fits : (E : Spelling Expr) (B : Spelling (List Stmt)) (text rest : List Word) (f : Formula) → FormulaText (Parameters (Within Literal levels)) E B text f → Shallow 64 unopened (text ++ rest) → AreLiteral f.params
  formula_fits E B _ rest _ (FormulaText.value {u} {v} {params} h k) s =
      let ws : List Word = word.Symbol symbol.Assign ∷ v in
      let line : List Word = word.Symbol symbol.Newline ∷ [] in
      listed_fit u params (ws ++ (line ++ rest)) h (subst (Shallow 64 unopened) (append_assoc (u ++ ws) line rest ∙ append_assoc u ws (line ++ rest)) s)
  formula_fits E B _ rest _ (FormulaText.body {u} {v} {params} h k) s =
      let ws : List Word = word.Symbol symbol.Colon ∷ v in
      listed_fit u params (ws ++ rest) h (subst (Shallow 64 unopened) (append_assoc u ws rest) s)

pub spelled_literal : (source : List ℕ) (f : Formula) → SpellsIn formula_text source f → AreLiteral f.params
spelled_literal source f h =
    formula_fits (h.spells.levels + 1) _ _ h.spells.text (word.Symbol symbol.End ∷ []) f h.spells.spelled (subst (Shallow 64 unopened) h.spells.parts h.shallow)
