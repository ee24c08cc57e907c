-- Lists that end alike.
use Rattle.std.proofs.Common.{◌≡◌, ◌∙◌, List, [], ◌∷◌, ◌++◌, refl, sym, ap}

pub no_more : {X : Type 0} (xs : List X) (x : X) → xs ++ x ∷ [] ≡ [] → ⊥
no_more [] x e = let i : x ∷ [] ≡ [] = e in cc
no_more (y ∷ xs) x e = let i : y ∷ (xs ++ x ∷ []) ≡ [] = e in cc

pub same_front : {X : Type 0} (xs ys : List X) (x y : X) → xs ++ x ∷ [] ≡ ys ++ y ∷ [] → (xs ≡ ys) × (x ≡ y)
same_front [] [] x y e = let i : x ∷ [] ≡ y ∷ [] = e in let j : x ≡ y = cc in (refl, j)
same_front [] (z ∷ ys) x y e = let i : x ∷ [] ≡ z ∷ (ys ++ y ∷ []) = e in let j : [] ≡ ys ++ y ∷ [] = cc in absurd (no_more ys y (sym j))
same_front (z ∷ xs) [] x y e = let i : z ∷ (xs ++ x ∷ []) ≡ y ∷ [] = e in let j : xs ++ x ∷ [] ≡ [] = cc in absurd (no_more xs x j)
same_front {X} (z ∷ xs) (w ∷ ys) x y e =
    let i : z ∷ (xs ++ x ∷ []) ≡ w ∷ (ys ++ y ∷ []) = e in
    let j : z ≡ w = cc in
    let k : xs ++ x ∷ [] ≡ ys ++ y ∷ [] = cc in
    let r : (xs ≡ ys) × (x ≡ y) = same_front xs ys x y k in
    (ap (λ (a : X). a ∷ xs) j ∙ ap (λ (zs : List X). w ∷ zs) r.0, r.1)
