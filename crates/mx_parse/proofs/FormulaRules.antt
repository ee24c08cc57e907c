-- The parsers of formulas and of the parameters of spaces are exact.
use Rattle.std.proofs.Common.{◌≡◌, ℕ, true, false, List, [], ◌∷◌, ◌++◌, None, refl, sym, subst, append_assoc, inl, inr}
use Rattle.mx_syntax.specs.declared.expr.Expr.{Expr}
use Rattle.mx_syntax.specs.declared.stmt.Stmt.{Stmt}
use Rattle.mx_syntax.specs.declared.stmt.ItemEntry.{ItemEntry}
use Rattle.mx_syntax.specs.declared.stmt.Param.{Param}
use Rattle.mx_syntax.specs.declared.stmt.Formula.{Formula}
use Rattle.mx_syntax.specs.declared.stmt.Params.{Params}
use Rattle.mx_grammar.specs.declared.word.Symbol.TheVariants as symbol
use Rattle.mx_grammar.specs.declared.word.Word.TheVariants.{Symbol}
use Rattle.mx_grammar.specs.Words.{is}
use Rattle.mx_grammar.specs.Reading.{Words, Parser}
use Rattle.mx_grammar.proofs.Exact.{Rel, Kinds, none, stops_none, Exists, Nothing, Then, Either}
use Rattle.mx_grammar.proofs.Rules.{Knot, Rule, plain, pure_rule, then_rule, iff_rule, choose_rule, behind_rule, Behind, mark, sees_mark, some_behind, single, behind_is}
use Rattle.mx_parse.specs.Statements.{FormulaText, ParamsText}
use Rattle.mx_parse.specs.StatementParsers.{returning, formula_of, formula_rest, formula, params_of, item_of, item_value_of, item_body_of, params_rest, space_params}
use Rattle.mx_parse.proofs.StatementRules.{some_nothing, Expressive, Displays, Ended, ended_to, is_ended, some_ended, Given, Headed, headed_is, is_headed, some_headed, valued_rule, given_rule, headed_rule}

module _ (E : Rel Expr) (Item : Rel (List ItemEntry)) (B : Rel (List Stmt)) where
  abbrev value_of : List Param → Expr → Formula
  value_of params x = formula_of params (returning x ∷ [])

  abbrev Rest : List Param → Rel Formula
  Rest params = Either (Behind symbol.Assign (Ended E Item E (value_of params))) (Headed E Item B (formula_of params))

  abbrev SpaceRest : List Param → Rel Params
  SpaceRest params =
      Either (Behind symbol.Newline (Nothing (params_of params None)))
      (Either (Behind symbol.Assign (Given E Item (item_of params) (item_value_of params))) (Headed E Item B (item_body_of params)))

  module _ (P : Rel (List Param)) where
    -- ---- formulas

    to_rest : (u v : Words) (params : List Param) (f : Formula) → P u params → Rest params v f → FormulaText P E B (u ++ v) f
    to_rest u v params f p (inl h) =
        behind_is symbol.Assign (Ended E Item E (value_of params)) (λ w g. FormulaText P E B (u ++ w) g)
        (λ w g k. ended_to E Item E (value_of params) (λ z r. FormulaText P E B (u ++ Symbol symbol.Assign ∷ z) r)
        (λ z x l. subst (λ (y : Words). FormulaText P E B y (value_of params x)) (append_assoc u (Symbol symbol.Assign ∷ z) (Symbol symbol.Newline ∷ [])) (FormulaText.value p l)) w g k) v f h
    to_rest u v params f p (inr h) =
        let k = headed_is E Item B (formula_of params) v f h in
        subst (λ (x : Words). FormulaText P E B (u ++ x) f) (sym k.parts) (subst (FormulaText P E B (u ++ Symbol symbol.Colon ∷ k.words)) (sym k.built) (FormulaText.body p k.spells))

    to_formula : (u : Words) (f : Formula) → Then P Rest u f → FormulaText P E B u f
    to_formula u f h = subst (λ (x : Words). FormulaText P E B x f) (sym h.parts) (to_rest h.left h.right h.tree f h.first h.second)

    from_formula : (u : Words) (f : Formula) → FormulaText P E B u f → Then P Rest u f
    from_formula _ _ (FormulaText.value {u} {v} {params} {x} p h) = record {
      left = u;
      right = Symbol symbol.Assign ∷ v ++ Symbol symbol.Newline ∷ [];
      tree = params;
      parts = append_assoc u (Symbol symbol.Assign ∷ v) (Symbol symbol.Newline ∷ []);
      first = p;
      second = inl (mark symbol.Assign (Ended E Item E (value_of params)) (v ++ Symbol symbol.Newline ∷ []) (value_of params x) (is_ended E Item E (value_of params) v x h));
    }
    from_formula _ _ (FormulaText.body {u} {v} {params} {body} p h) = record { left = u; right = Symbol symbol.Colon ∷ v; tree = params; parts = refl; first = p; second = inr (is_headed E Item B (formula_of params) v body h) }

    -- ---- the parameters of spaces

    to_given : (u w : Words) (params : List Param) (f : Params) → P u params → Given E Item (item_of params) (item_value_of params) w f → ParamsText P E Item B (u ++ Symbol symbol.Assign ∷ w) f
    to_given u w params f p (inl h) =
        ended_to E Item Item (item_of params) (λ z r. ParamsText P E Item B (u ++ Symbol symbol.Assign ∷ z) r)
        (λ z es l. subst (λ (y : Words). ParamsText P E Item B y (item_of params es)) (append_assoc u (Symbol symbol.Assign ∷ z) (Symbol symbol.Newline ∷ [])) (ParamsText.item p l)) w f h
    to_given u w params f p (inr h) =
        ended_to E Item E (item_value_of params) (λ z r. ParamsText P E Item B (u ++ Symbol symbol.Assign ∷ z) r)
        (λ z x l. subst (λ (y : Words). ParamsText P E Item B y (item_value_of params x)) (append_assoc u (Symbol symbol.Assign ∷ z) (Symbol symbol.Newline ∷ [])) (ParamsText.value p l)) w f h

    to_space_rest : (u v : Words) (params : List Param) (f : Params) → P u params → SpaceRest params v f → ParamsText P E Item B (u ++ v) f
    to_space_rest u v params f p (inl h) = single (λ w g. ParamsText P E Item B (u ++ w) g) symbol.Newline (params_of params None) (ParamsText.alone p) v f h
    to_space_rest u v params f p (inr (inl h)) = behind_is symbol.Assign (Given E Item (item_of params) (item_value_of params)) (λ w g. ParamsText P E Item B (u ++ w) g) (λ w g k. to_given u w params g p k) v f h
    to_space_rest u v params f p (inr (inr h)) =
        let k = headed_is E Item B (item_body_of params) v f h in
        subst (λ (x : Words). ParamsText P E Item B (u ++ x) f) (sym k.parts) (subst (ParamsText P E Item B (u ++ Symbol symbol.Colon ∷ k.words)) (sym k.built) (ParamsText.body p k.spells))

    to_params : (u : Words) (f : Params) → Then P SpaceRest u f → ParamsText P E Item B u f
    to_params u f h = subst (λ (x : Words). ParamsText P E Item B x f) (sym h.parts) (to_space_rest h.left h.right h.tree f h.first h.second)

    with_params : (u v w : Words) (params : List Param) (f : Params) → w ≡ u ++ v → P u params → SpaceRest params v f → Then P SpaceRest w f
    with_params u v w params f e p h = record { left = u; right = v; tree = params; parts = e; first = p; second = h }

    from_params : (u : Words) (f : Params) → ParamsText P E Item B u f → Then P SpaceRest u f
    from_params _ f (ParamsText.alone {u} {params} p) =
        with_params u (Symbol symbol.Newline ∷ []) (u ++ Symbol symbol.Newline ∷ []) params f refl p (inl (mark symbol.Newline (Nothing (params_of params None)) [] (params_of params None) (refl, refl)))
    from_params _ f (ParamsText.value {u} {v} {params} {x} p h) =
        with_params u (Symbol symbol.Assign ∷ v ++ Symbol symbol.Newline ∷ []) (u ++ Symbol symbol.Assign ∷ v ++ Symbol symbol.Newline ∷ []) params f (append_assoc u (Symbol symbol.Assign ∷ v) (Symbol symbol.Newline ∷ [])) p
        (inr (inl (mark symbol.Assign (Given E Item (item_of params) (item_value_of params)) (v ++ Symbol symbol.Newline ∷ []) (item_value_of params x) (inr (is_ended E Item E (item_value_of params) v x h)))))
    from_params _ f (ParamsText.item {u} {v} {params} {entries} p h) =
        with_params u (Symbol symbol.Assign ∷ v ++ Symbol symbol.Newline ∷ []) (u ++ Symbol symbol.Assign ∷ v ++ Symbol symbol.Newline ∷ []) params f (append_assoc u (Symbol symbol.Assign ∷ v) (Symbol symbol.Newline ∷ [])) p
        (inr (inl (mark symbol.Assign (Given E Item (item_of params) (item_value_of params)) (v ++ Symbol symbol.Newline ∷ []) (item_of params entries) (inl (is_ended E Item Item (item_of params) v entries h)))))
    from_params _ f (ParamsText.body {u} {v} {params} {body} p h) =
        with_params u (Symbol symbol.Colon ∷ v) (u ++ Symbol symbol.Colon ∷ v) params f refl p (inr (inr (is_headed E Item B (item_body_of params) v body h)))

module _ {X : Type 0} {K : Knot X} {k : ℕ} {F : Kinds} {E : Rel Expr} {Item : Rel (List ItemEntry)} {B : Rel (List Stmt)}
    {expression : X → Parser Expr} {display : X → Parser (List ItemEntry)} {body : X → Parser (List Stmt)}
    (x : Expressive F E) (ex : Rule K k (plain F) E expression) (displays : Displays Item) (item : Rule K k (plain none) Item display) (some : Exists B) (b : Rule K k (plain none) B body) where
  formula_rest_rule : (ps : List Param) → Rule K k (plain none) (Rest E Item B ps) (λ i. formula_rest (expression i) (body i) ps)
  unfolding formula_rest
  formula_rest_rule ps =
      choose_rule (is symbol.Assign) (behind_rule symbol.Assign refl (some_ended E Item E (value_of E Item B ps) x.some) (valued_rule x ex displays item (value_of E Item B ps)))
      (headed_rule x ex displays item some b (formula_of ps))
      (λ u rest f h st. sees_mark symbol.Assign (Ended E Item E (value_of E Item B ps)) (is symbol.Assign) true refl u rest f h)
      (λ u rest f h st. sees_mark symbol.Colon (Then B (λ c. Nothing (formula_of ps c))) (is symbol.Assign) false refl u rest f h)

  some_rest : (ps : List Param) → Exists (Rest E Item B ps)
  some_rest ps = let s = some_headed E Item B (formula_of ps) some in record { tokens = s.tokens; tree = s.tree; spells = inr s.spells }

  pub formula_rule : {P : Rel (List Param)} {params : X → Parser (List Param)} → Rule K k (plain none) P params → Rule K k (plain none) (FormulaText P E B) (λ i. formula (params i) (expression i) (body i))
  unfolding formula
  formula_rule {P} p = iff_rule (to_formula E Item B P) (from_formula E Item B P) (then_rule p formula_rest_rule (λ ps v rest f h st. stops_none (v ++ rest)) some_rest)

  space_rest_rule : (ps : List Param) → Rule K k (plain none) (SpaceRest E Item B ps) (λ i. params_rest (expression i) (display i) (body i) ps)
  unfolding params_rest
  space_rest_rule ps =
      choose_rule (is symbol.Newline) (behind_rule symbol.Newline refl (some_nothing (params_of ps None)) (pure_rule (plain none) (params_of ps None)))
      (choose_rule (is symbol.Assign)
      (behind_rule symbol.Assign refl some_given (given_rule x ex displays item (item_of ps) (item_value_of ps)))
      (headed_rule x ex displays item some b (item_body_of ps))
      (λ u rest f h st. sees_mark symbol.Assign (Given E Item (item_of ps) (item_value_of ps)) (is symbol.Assign) true refl u rest f h)
      (λ u rest f h st. sees_mark symbol.Colon (Then B (λ c. Nothing (item_body_of ps c))) (is symbol.Assign) false refl u rest f h))
      (λ u rest f h st. sees_mark symbol.Newline (Nothing (params_of ps None)) (is symbol.Newline) true refl u rest f h)
      (λ u rest f h st. elim h [
        | inl g ↦ sees_mark symbol.Assign (Given E Item (item_of ps) (item_value_of ps)) (is symbol.Newline) false refl u rest f g
        | inr g ↦ sees_mark symbol.Colon (Then B (λ c. Nothing (item_body_of ps c))) (is symbol.Newline) false refl u rest f g
      ])
    where
      some_given : Exists (Given E Item (item_of ps) (item_value_of ps))
      some_given = let s = some_ended E Item E (item_value_of ps) x.some in record { tokens = s.tokens; tree = s.tree; spells = inr s.spells }

  some_space_rest : (ps : List Param) → Exists (SpaceRest E Item B ps)
  some_space_rest ps = let s = some_behind symbol.Newline (some_nothing (params_of ps None)) in record { tokens = s.tokens; tree = s.tree; spells = inl s.spells }

  pub space_params_rule : {P : Rel (List Param)} {params : X → Parser (List Param)} → Rule K k (plain none) P params → Rule K k (plain none) (ParamsText P E Item B) (λ i. space_params (params i) (expression i) (display i) (body i))
  unfolding space_params
  space_params_rule {P} p = iff_rule (to_params E Item B P) (from_params E Item B P) (then_rule p space_rest_rule (λ ps v rest f h st. stops_none (v ++ rest)) some_space_rest)

pub some_formula : {P : Rel (List Param)} {E : Rel Expr} {B : Rel (List Stmt)} → Exists P → Exists B → Exists (FormulaText P E B)
some_formula p b = record { tokens = p.tokens ++ Symbol symbol.Colon ∷ b.tokens; tree = formula_of p.tree b.tree; spells = FormulaText.body p.spells b.spells }

pub some_space_params : {P : Rel (List Param)} {E : Rel Expr} {Item : Rel (List ItemEntry)} {B : Rel (List Stmt)} → Exists P → Exists (ParamsText P E Item B)
some_space_params p = record { tokens = p.tokens ++ Symbol symbol.Newline ∷ []; tree = params_of p.tree None; spells = ParamsText.alone p.spells }
