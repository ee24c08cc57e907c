-- One item more of a list that a loop goes through.
use Rattle.std.proofs.Common.{◌≡◌, ℕ, ◌+◌, ◌<◌, List, [], ◌∷◌, ◌++◌, length, get_or, map, take, refl, sym, ap, ◌∙◌, append_assoc, append-nil}
use Rattle.std.proofs.lemmas.List.{take_more, map-append}
use Rattle.mx_syntax.specs.Lists.{flat}

-- the first i items and the next one
pub take_next : {X : Type 0} (xs : List X) (i : ℕ) (x : X) → i < length xs → x ≡ get_or xs i x → take (i + 1) xs ≡ take i xs ++ x ∷ []
take_next xs i x lt is = take_more xs i x lt ∙ ap (λ y. take i xs ++ y ∷ []) (sym is)

pub flat_append : {X : Type 0} (xs ys : List (List X)) → flat (xs ++ ys) ≡ flat xs ++ flat ys
flat_append [] ys = refl
flat_append (x ∷ xs) ys = ap (λ rest. x ++ rest) (flat_append xs ys) ∙ sym (append_assoc x (flat xs) (flat ys))

pub flat_next : {X Y : Type 0} (f : X → List Y) (xs : List X) (i : ℕ) (x : X) → i < length xs → x ≡ get_or xs i x → flat (map f (take (i + 1) xs)) ≡ flat (map f (take i xs)) ++ f x
flat_next f xs i x lt is =
    ap (λ ys. flat (map f ys)) (take_next xs i x lt is) ∙ ap flat (map-append f (take i xs) (x ∷ [])) ∙ flat_append (map f (take i xs)) (f x ∷ []) ∙ ap (λ rest. flat (map f (take i xs)) ++ rest) (append-nil (f x))

-- behind what was there
pub flat_more : {X Y : Type 0} (f : X → List Y) (out : List Y) (xs : List X) (i : ℕ) (x : X) → i < length xs → x ≡ get_or xs i x → (out ++ flat (map f (take i xs))) ++ f x ≡ out ++ flat (map f (take (i + 1) xs))
flat_more f out xs i x lt is = append_assoc out (flat (map f (take i xs))) (f x) ∙ ap (λ rest. out ++ rest) (sym (flat_next f xs i x lt is))
