-- Parameters, each by its name with its argument, one after the other.
use Rattle.std.proofs.Common.{◌≡◌, ℕ, ◌+◌, ◌<◌, ◌≤◌, List, [], ◌∷◌, ◌++◌, Some, length, drop, get_or, slice_get, refl, sym, ap, ◌∙◌}
use Rattle.std.proofs.lemmas.List.{append-nil, append_assoc, drop_all, drop_more}
use Rattle.std.proofs.lemmas.Option.{get_or_from_slice_get, slice_get_within}
use Rattle.mx_value.specs.declared.value.Value.{Value}
use Rattle.mx_syntax.specs.declared.stmt.Param.{Param}
use Rattle.mx_meaning.specs.Namespaces.{Overlay}
use Rattle.mx_meaning.specs.Nodes.{arguments_of}

-- what is named so far, and what is still to come
abbrev pub AreNamed : Overlay → List Param → List Value → ℕ → Type 0
AreNamed given params args i = given ++ arguments_of (drop i params) (drop i args) ≡ arguments_of params args

none_left : (params : List Param) (args : List Value) → args ≡ [] → arguments_of params args ≡ []
none_left [] args e = refl
none_left (p ∷ ps) args e = ap (λ (vs : List Value). arguments_of (p ∷ ps) vs) e

module _ (given : Overlay) (params : List Param) (args : List Value) (i : ℕ) (h : AreNamed given params args i) where
  -- one more
  pub one_more : (p : Param) (v : Value) → i < length params → p ≡ get_or params i p → slice_get args i ≡ Some v → AreNamed (given ++ (p.name, v) ∷ []) params args (i + 1)
  one_more p v within is e =
      let ps : drop i params ≡ p ∷ drop (i + 1) params = drop_more params i p within ∙ ap (λ (x : Param). x ∷ drop (i + 1) params) (sym is) in
      let vs : drop i args ≡ v ∷ drop (i + 1) args = drop_more args i v (slice_get_within args i v e) ∙ ap (λ (x : Value). x ∷ drop (i + 1) args) (get_or_from_slice_get args i v v e) in
      append_assoc given ((p.name, v) ∷ []) (arguments_of (drop (i + 1) params) (drop (i + 1) args))
      ∙ sym (ap (λ (xs : List Param). given ++ arguments_of xs (drop i args)) ps ∙ ap (λ (xs : List Value). given ++ arguments_of (p ∷ drop (i + 1) params) xs) vs)
      ∙ h

  -- no arguments are left
  pub no_arguments : length args ≤ i → given ≡ arguments_of params args
  no_arguments past =
      sym (append-nil given) ∙ sym (ap (λ (xs : Overlay). given ++ xs) (none_left (drop i params) (drop i args) (drop_all i args past))) ∙ h

  -- no parameters are left
  pub no_parameters : length params ≤ i → given ≡ arguments_of params args
  no_parameters past =
      sym (append-nil given) ∙ sym (ap (λ (xs : List Param). given ++ arguments_of xs (drop i args)) (drop_all i params past)) ∙ h
