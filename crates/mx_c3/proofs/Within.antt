-- Laws of items that stand in another list in the same order.
use Rattle.std.proofs.Common.{List, [], ◌∷◌, inl, inr, refl, ◌∙◌}
use Rattle.mx_c3.specs.Lists.{Has, Within}

pub within_cons : {X : Type 0} (xs ys : List X) (y : X) → Within xs ys → Within xs (y ∷ ys)
within_cons [] ys y w = tt
within_cons (x ∷ xs) ys y w = inr w

pub within_same : {X : Type 0} (xs : List X) → Within xs xs
within_same [] = tt
within_same (x ∷ xs) = inl (refl, within_same xs)

pub within_has : {X : Type 0} (xs ys : List X) (x : X) → Within xs ys → Has xs x → Has ys x
within_has [] ys x w h = absurd h
within_has (z ∷ xs) [] x w h = absurd w
within_has (z ∷ xs) (y ∷ ys) x w h =
    elim w [
      | inl p ↦ elim h [ inl e ↦ inl (p.0 ∙ e) | inr r ↦ inr (within_has xs ys x p.1 r) ]
      | inr q ↦ inr (within_has (z ∷ xs) ys x q h)
    ]

pub within_trans : {X : Type 0} (xs ys zs : List X) → Within xs ys → Within ys zs → Within xs zs
within_trans [] ys zs v w = tt
within_trans (x ∷ xs) [] zs v w = absurd v
within_trans (x ∷ xs) (y ∷ ys) [] v w = absurd w
within_trans (x ∷ xs) (y ∷ ys) (z ∷ zs) v w =
    elim w [
      | inl p ↦
          elim v [
            | inl q ↦ inl (p.0 ∙ q.0, within_trans xs ys zs q.1 p.1)
            | inr r ↦ inr (within_trans (x ∷ xs) ys zs r p.1)
          ]
      | inr s ↦ inr (within_trans (x ∷ xs) (y ∷ ys) zs v s)
    ]
