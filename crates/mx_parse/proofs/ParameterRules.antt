-- The parsers of parameter lists are exact.
use Rattle.std.proofs.Common.{◌≡◌, ℕ, ◌==◌, Bool, true, false, ◌||◌, List, map, [], ◌∷◌, ◌++◌, Option, Some, None, refl, sym, ap, subst, ◌∙◌, inl, inr}
use Rattle.std.specs.Option.{is_some}
use Rattle.std.specs.List.{list_any}
use Rattle.std.specs.Cmp.Lexicographic.{pointwise}
use Rattle.std.specs.Bool.{Decides}
use Rattle.std.proofs.lemmas.Bool.Decides.{Decides-eqb}
use Rattle.std.proofs.lemmas.Slice.Eq.{slice_eq-Decides}
use Rattle.mx_value.specs.declared.value.Value.{Value}
use Rattle.mx_syntax.specs.declared.stmt.Param.{Param}
use Rattle.mx_grammar.specs.declared.word.Symbol.TheVariants as symbol
use Rattle.mx_grammar.specs.declared.word.Word.{Word}
use Rattle.mx_grammar.specs.declared.word.Word.TheVariants.{Name, Symbol}
use Rattle.mx_grammar.specs.Words.{is}
use Rattle.mx_grammar.specs.Reading.{Words, Parser, sees}
use Rattle.mx_grammar.proofs.Exact.{Rel, Stops, none, stops_none, Exists, Nothing, Never, Then, Either, One, Inner}
use Rattle.mx_grammar.proofs.Symbols.{unsaid}
use Rattle.mx_grammar.proofs.Rules.{Knot, Rule, plain, pure_rule, accept_rule, then_rule, iff_rule, any_rule, map_rule, choose_rule, behind_rule, Behind, marked, mark, mapped, mapping, sees_mark, some_mapped, some_behind}
use Rattle.mx_grammar.proofs.Lists.{Closes}
use Rattle.mx_parse.specs.Following.{Following, IsNew, unless}
use Rattle.mx_parse.specs.Parameters.{names_of, NoDefault, ParamText, Parameters, SomeParameters}
use Rattle.mx_parse.specs.ParameterParsers.{is_named, has_default, new_name, param_of, optional, param_rest, param, params, parameters_by, some_parameters_by}
use Rattle.mx_parse.proofs.FollowingRules.{ClosedBehind, SomeBehind, all_following_rule, some_following_rule}

-- ---- names and defaults before

pub same_name : (m n : List ℕ) → Decides (pointwise ◌==◌ m n) (m ≡ n)
same_name m n = slice_eq-Decides Decides-eqb m n (pointwise ◌==◌ m n) refl

pub neither : (a b : Bool) → (a || b) ≡ false → (a ≡ false) × (b ≡ false)
neither true b h = absurd cc
neither false b h = (refl, h)

pub both_false : (a b : Bool) → a ≡ false → b ≡ false → (a || b) ≡ false
both_false true b p q = absurd cc
both_false false b p q = q

pub not_true : (b : Bool) → (b ≡ true → ⊥) → b ≡ false
not_true true h = absurd (h refl)
not_true false h = refl

pub is_true_false : (b : Bool) → b ≡ true → b ≡ false → ⊥
is_true_false true p q = cc
is_true_false false p q = cc

abbrev any_named : {A : Type 0} → (A → List ℕ) → List A → List ℕ → Bool
any_named name before n = list_any (λ a. pointwise ◌==◌ (name a) n) before

pub is_new : {A : Type 0} (name : A → List ℕ) (before : List A) (n : List ℕ) → any_named name before n ≡ false → IsNew n (map name before)
is_new name [] n h = tt
is_new name (a ∷ before) n h =
    let q = neither (pointwise ◌==◌ (name a) n) (any_named name before n) h in
    (λ e. is_true_false (pointwise ◌==◌ (name a) n) ((same_name (name a) n).1 e) q.0, is_new name before n q.1)

pub not_named : {A : Type 0} (name : A → List ℕ) (before : List A) (n : List ℕ) → IsNew n (map name before) → any_named name before n ≡ false
not_named name [] n h = refl
not_named name (a ∷ before) n h =
    both_false (pointwise ◌==◌ (name a) n) (any_named name before n) (not_true (pointwise ◌==◌ (name a) n) (λ t. h.0 ((same_name (name a) n).0 t))) (not_named name before n h.1)

is_none : (o : Option Value) → is_some o ≡ false → o ≡ None
is_none None h = refl
is_none (Some v) h = absurd cc

no_default : (before : List Param) → has_default before ≡ false → NoDefault before
no_default [] h = tt
no_default (p ∷ before) h = let q = neither (is_some p.default) (has_default before) h in (is_none p.default q.0, no_default before q.1)

has_none : (before : List Param) → NoDefault before → has_default before ≡ false
has_none [] h = refl
has_none (p ∷ before) h = both_false (is_some p.default) (has_default before) (ap is_some h.0) (has_none before h.1)

-- ---- tokens

pub unless_some : {A : Type 0} (b : Bool) (x a : A) → unless b x ≡ Some a → (b ≡ false) × (x ≡ a)
unless_some true x a h = absurd cc
unless_some false x a h = (refl, cc)

name_inner : (before : List Param) → Inner (new_name before)
name_inner before = unsaid (new_name before) symbol.End refl

name_is : (before : List Param) (t : Word) (n : List ℕ) → new_name before t ≡ Some n → (t ≡ Name n) × IsNew n (names_of before)
name_is before (Name m) n h =
    let q = unless_some (is_named before m) m n h in
    (ap Name q.1, is_new (λ (p : Param). p.name) before n (ap (is_named before) (sym q.1) ∙ q.0))
name_is before _ n h = absurd cc

one_name : (before : List Param) (n : List ℕ) → IsNew n (names_of before) → One (new_name before) (Name n ∷ []) n
one_name before n h = record { token = Name n; is = refl; what = ap (λ (b : Bool). unless b n) (not_named (λ (p : Param). p.name) before n h) }

module _ (L : Rel Value) where
  abbrev Optional : List ℕ → Rel Param
  Optional n = Behind symbol.Assign (Then L (λ value. Nothing (param_of n (Some value))))

  abbrev Required : Bool → List ℕ → Rel Param
  Required true n = Never
  Required false n = Nothing (param_of n None)

  abbrev RestIs : Bool → List ℕ → Rel Param
  RestIs must n = Either (Optional n) (Required must n)

  abbrev ParamIs : List Param → Rel Param
  ParamIs before = Then (One (new_name before)) (RestIs (has_default before))

  to_rest : (before : List Param) (must : Bool) (n : List ℕ) (v : Words) (p : Param) → has_default before ≡ must → IsNew n (names_of before) → RestIs must n v p → ParamText L before (Name n ∷ v) p
  to_rest before must n v p e new (inl h) =
      let m = marked symbol.Assign (Then L (λ value. Nothing (param_of n (Some value)))) v p h in
      let q = mapped L (λ value. param_of n (Some value)) m.0 p m.2 in
      subst (λ (w : Words). ParamText L before (Name n ∷ w) p) (sym m.1) (subst (ParamText L before (Name n ∷ Symbol symbol.Assign ∷ m.0)) (sym q.2) (ParamText.optional new q.1))
  to_rest before true n v p e new (inr h) = absurd h
  to_rest before false n v p e new (inr h) =
      subst (λ (w : Words). ParamText L before (Name n ∷ w) p) (sym h.0) (subst (ParamText L before (Name n ∷ [])) (sym h.1) (ParamText.required new (no_default before e)))

  to_param : (before : List Param) (u : Words) (p : Param) → ParamIs before u p → ParamText L before u p
  to_param before u p h =
      let o = h.first in
      let q = name_is before o.token h.tree o.what in
      let e : u ≡ Name h.tree ∷ h.right = h.parts ∙ ap (λ (w : Words). w ++ h.right) (o.is ∙ ap (λ (t : Word). t ∷ []) q.0) in
      subst (λ (w : Words). ParamText L before w p) (sym e) (to_rest before (has_default before) h.tree h.right p refl q.1 h.second)

  from_param : (before : List Param) (u : Words) (p : Param) → ParamText L before u p → ParamIs before u p
  from_param before _ _ (ParamText.required {n} new few) =
      record { left = Name n ∷ []; right = []; tree = n; parts = refl; first = one_name before n new; second = inr (subst (λ (b : Bool). Required b n [] (param_of n None)) (sym (has_none before few)) (refl, refl)) }
  from_param before _ _ (ParamText.optional {n} {u} {value} new h) = record {
    left = Name n ∷ [];
    right = Symbol symbol.Assign ∷ u;
    tree = n;
    parts = refl;
    first = one_name before n new;
    second = inl (mark symbol.Assign (Then L (λ v. Nothing (param_of n (Some v)))) u (param_of n (Some value)) (mapping L (λ v. param_of n (Some v)) u value h));
  }

  param_begins : (before : List Param) (u rest : Words) (p : Param) → ParamText L before u p → sees (is symbol.CloseRound) (u ++ rest) ≡ false
  param_begins before _ rest _ (ParamText.required new few) = refl
  param_begins before _ rest _ (ParamText.optional new h) = refl

  closes : (before : List Param) → Closes symbol.CloseRound (is symbol.Assign) (ParamText L before)
  closes before = record { inner = refl; no_comma = refl; stops_comma = refl; stops_close = refl; begins = param_begins before }

  to_parameters : (u : Words) (ps : List Param) → Behind symbol.OpenRound (ClosedBehind (ParamText L) symbol.CloseRound []) u ps → Parameters L u ps
  to_parameters u ps h =
      let m = marked symbol.OpenRound (ClosedBehind (ParamText L) symbol.CloseRound []) u ps h in
      let c = m.2 in
      subst (λ (w : Words). Parameters L w ps) (sym (m.1 ∙ ap (λ (w : Words). Symbol symbol.OpenRound ∷ w) c.parts)) (Parameters.parameters c.spells)

  from_parameters : (u : Words) (ps : List Param) → Parameters L u ps → Behind symbol.OpenRound (ClosedBehind (ParamText L) symbol.CloseRound []) u ps
  from_parameters _ _ (Parameters.parameters {u} {params = ps} h) = mark symbol.OpenRound (ClosedBehind (ParamText L) symbol.CloseRound []) (u ++ Symbol symbol.CloseRound ∷ []) ps (record { items = u; parts = refl; spells = h })

  to_some_parameters : (u : Words) (ps : List Param) → Behind symbol.OpenRound (SomeBehind (ParamText L) symbol.CloseRound) u ps → SomeParameters L u ps
  to_some_parameters u ps h =
      let m = marked symbol.OpenRound (SomeBehind (ParamText L) symbol.CloseRound) u ps h in
      let c = m.2 in
      subst (λ (w : Words). SomeParameters L w ps) (sym (m.1 ∙ ap (λ (w : Words). Symbol symbol.OpenRound ∷ w) c.parts)) (subst (SomeParameters L (Symbol symbol.OpenRound ∷ c.items ++ Symbol symbol.CloseRound ∷ [])) (sym c.are) (SomeParameters.parameters c.spells))

  from_some_parameters : (u : Words) (ps : List Param) → SomeParameters L u ps → Behind symbol.OpenRound (SomeBehind (ParamText L) symbol.CloseRound) u ps
  from_some_parameters _ _ (SomeParameters.parameters {u} {param = p} {others} h) =
      mark symbol.OpenRound (SomeBehind (ParamText L) symbol.CloseRound) (u ++ Symbol symbol.CloseRound ∷ []) (p ∷ others) (record { first = p; others = others; items = u; parts = refl; spells = h; are = refl })

  -- `()`
  pub some_parameters_text : Exists (Parameters L)
  some_parameters_text = record { tokens = Symbol symbol.OpenRound ∷ Symbol symbol.CloseRound ∷ []; tree = []; spells = Parameters.parameters Following.none }

  -- `(a)`, of any name
  one_parameter : Following (ParamText L) [] (Name [] ∷ []) (param_of [] None ∷ [])
  one_parameter = Following.one (ParamText.required tt tt)

  pub some_some_parameters : Exists (SomeParameters L)
  some_some_parameters = record { tokens = Symbol symbol.OpenRound ∷ Name [] ∷ Symbol symbol.CloseRound ∷ []; tree = param_of [] None ∷ []; spells = SomeParameters.parameters one_parameter }

-- ---- the rules

module _ {E : Type 0} {K : Knot E} {k : ℕ} {L : Rel Value} {literal : E → Parser Value} (some : Exists L) (l : Rule K k (plain none) L literal) where
  some_optional : (n : List ℕ) → Exists (Optional L n)
  some_optional n = some_behind symbol.Assign (some_mapped (λ v. param_of n (Some v)) some)

  optional_rule : (n : List ℕ) → Rule K k (plain (is symbol.Assign)) (Optional L n) (λ i. optional (literal i) n)
  unfolding optional
  optional_rule n = any_rule (behind_rule symbol.Assign refl (some_mapped (λ v. param_of n (Some v)) some) (map_rule (λ v. param_of n (Some v)) l))

  rest_rule : (must : Bool) (n : List ℕ) → Rule K k (plain (is symbol.Assign)) (RestIs L must n) (λ i. param_rest (literal i) must n)
  rest_rule true n = iff_rule (λ u p h. inl h) (λ u p h. elim h [ inl w ↦ w | inr w ↦ absurd w ]) (optional_rule n)
  rest_rule false n =
      choose_rule (is symbol.Assign) (optional_rule n) (pure_rule (plain (is symbol.Assign)) (param_of n None))
      (λ u rest p h s. sees_mark symbol.Assign (Then L (λ v. Nothing (param_of n (Some v)))) (is symbol.Assign) true refl u rest p h)
      (λ u rest p h s. subst (λ (v : Words). Stops (is symbol.Assign) (v ++ rest)) (sym h.0) s)

  some_rest : (must : Bool) (n : List ℕ) → Exists (RestIs L must n)
  some_rest must n = let o = some_optional n in record { tokens = o.tokens; tree = o.tree; spells = inl o.spells }

  param_rule : (before : List Param) → Rule K k (plain (is symbol.Assign)) (ParamText L before) (λ i. param (literal i) before)
  unfolding param
  param_rule before =
      iff_rule (to_param L before) (from_param L before)
      (then_rule (accept_rule (new_name before) (name_inner before)) (rest_rule (has_default before)) (λ n v rest p h s. stops_none (v ++ rest)) (some_rest (has_default before)))

  pub parameters_rule : Rule K k (plain none) (Parameters L) (λ i. parameters_by (literal i))
  unfolding parameters_by
  parameters_rule =
      iff_rule (to_parameters L) (from_parameters L)
      (behind_rule symbol.OpenRound refl (record { tokens = Symbol symbol.CloseRound ∷ []; tree = []; spells = record { items = []; parts = refl; spells = Following.none } })
      (all_following_rule {P = λ (i : E). param (literal i)} symbol.CloseRound (closes L) param_rule))

  pub some_parameters_rule : Rule K k (plain none) (SomeParameters L) (λ i. some_parameters_by (literal i))
  unfolding some_parameters_by
  some_parameters_rule =
      iff_rule (to_some_parameters L) (from_some_parameters L)
      (behind_rule symbol.OpenRound refl (record { tokens = Name [] ∷ Symbol symbol.CloseRound ∷ []; tree = param_of [] None ∷ []; spells = record { first = param_of [] None; others = []; items = Name [] ∷ []; parts = refl; spells = one_parameter L; are = refl } })
      (some_following_rule {P = λ (i : E). param (literal i)} symbol.CloseRound (closes L) param_rule))
