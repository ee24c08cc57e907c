-- Defaults, one after the other.
use Rattle.std.proofs.Common.{◌≡◌, ℕ, ◌+◌, ◌<◌, List, [], ◌∷◌, ◌++◌, None, Some, length, get_or, take, refl, sym, ap, ◌∙◌, append_assoc}
use Rattle.std.proofs.lemmas.List.Elements.{filter_map-append}
use Rattle.mx_value.specs.declared.value.Value.{Value}
use Rattle.mx_syntax.specs.declared.stmt.Param.{Param}
use Rattle.mx_syntax.specs.Binding.{defaults}
use Rattle.mx_syntax.proofs.ListLemmas.{take_next}

pub default_none : (param : Param) → param.default ≡ None → defaults (param ∷ []) ≡ []
default_none param is = rw is refl

pub default_some : (param : Param) (v : Value) → param.default ≡ Some v → defaults (param ∷ []) ≡ v ∷ []
default_some param v is = rw is refl

pub defaults_more : (args : List Value) (params : List Param) (i : ℕ) (param : Param) → i < length params → param ≡ get_or params i param → (args ++ defaults (take i params)) ++ defaults (param ∷ []) ≡ args ++ defaults (take (i + 1) params)
defaults_more args params i param lt is =
    append_assoc args (defaults (take i params)) (defaults (param ∷ []))
    ∙ ap (λ (vs : List Value). args ++ vs) (sym (filter_map-append (λ (p : Param). p.default) (take i params) (param ∷ [])) ∙ ap defaults (sym (take_next params i param lt is)))
