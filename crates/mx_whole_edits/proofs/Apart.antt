-- Lists that have nothing in common.
use Rattle.std.proofs.Common.{List, [], ◌∷◌, ◌++◌, inl, inr, refl, sym, subst}
use Rattle.mx_c3.specs.Lists.{Has, Distinct}
use Rattle.mx_c3.proofs.ListLemmas.{has_left, has_right, has_cases}

module _ {X : Type 0} where
  abbrev pub AreApart : List X → List X → Type 0
  AreApart xs ys = (x : X) → Has xs x → Has ys x → ⊥

  pub distinct_join : (xs ys : List X) → Distinct xs → Distinct ys → AreApart xs ys → Distinct (xs ++ ys)
  distinct_join [] ys d e n = e
  distinct_join (x ∷ xs) ys d e n =
      (λ h. elim (has_cases xs ys x h) [ inl a ↦ d.0 a | inr b ↦ n x (inl refl) b ], distinct_join xs ys d.1 e (λ z h. n z (inr h)))

  pub first_part : (xs ys : List X) → Distinct (xs ++ ys) → Distinct xs
  first_part [] ys d = tt
  first_part (x ∷ xs) ys d = (λ h. d.0 (has_left xs ys x h), first_part xs ys d.1)

  pub last_part : (xs ys : List X) → Distinct (xs ++ ys) → Distinct ys
  last_part [] ys d = d
  last_part (x ∷ xs) ys d = last_part xs ys d.1

  pub parts_apart : (xs ys : List X) → Distinct (xs ++ ys) → AreApart xs ys
  parts_apart [] ys d x h k = h
  parts_apart (y ∷ xs) ys d x h k = elim h [ inl e ↦ d.0 (has_right xs ys y (let P : X → Type 0 = λ z. Has ys z in subst P (sym e) k)) | inr r ↦ parts_apart xs ys d.1 x r k ]
