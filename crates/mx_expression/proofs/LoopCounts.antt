-- The greatest of many counts, none above the greatest u32.
use Rattle.std.proofs.Common.{◌≡◌, ℕ, suc, ◌+◌, ◌-◌, ◌^◌, ◌<◌, min, max, List, ◌∷◌, length, map, get_or, drop, sym, ap, ◌∙◌, arith, drop-cons}
use Rattle.mx_expression.specs.Loops.{greatest}

abbrev pub capped : ℕ → ℕ
capped n = min n (2 ^ 32 - 1)

drop_next : {A : Type 0} (xs : List A) (i : ℕ) (x : A) → i < length xs → x ≡ get_or xs i x → drop i xs ≡ x ∷ drop (i + 1) xs
drop_next xs i x lt is =
    let e : suc i ≡ i + 1 = omega arith in
    drop-cons xs i x lt ∙ ap (λ (y : _). y ∷ drop (suc i) xs) (sym is) ∙ ap (λ (n : ℕ). x ∷ drop n xs) e

-- the next count beside the greatest so far
pub more : {A : Type 0} (f : A → ℕ) (xs : List A) (i : ℕ) (x : A) (most one all : ℕ) → i < length xs → x ≡ get_or xs i x → one ≡ capped (f x)
    → max most (capped (greatest (map f (drop i xs)))) ≡ all → max (max most one) (capped (greatest (map f (drop (i + 1) xs)))) ≡ all
more f xs i x most one all lt is own so_far =
    let e : greatest (map f (drop i xs)) ≡ max (f x) (greatest (map f (drop (i + 1) xs))) = ap (λ (l : List _). greatest (map f l)) (drop_next xs i x lt is) in
    omega (arith, e, own, so_far)
