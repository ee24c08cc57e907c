-- Heights, added one after the other.
use Rattle.std.proofs.Common.{◌≡◌, ℕ, ◌+◌, ◌<◌, ◌-◌, ◌^◌, min, List, [], ◌∷◌, ◌++◌, length, get_or, map, take, Some, None, refl, sym, ap, ◌∙◌, arith}
use Rattle.std.specs.List.{sum}
use Rattle.std.proofs.lemmas.Grind.{common_steps}
use Rattle.std.proofs.lemmas.List.Sums.{sum-map, sum_by_push}
use Rattle.mx_syntax.proofs.ListLemmas.{take_next}

pub sum_next : {X : Type 0} (f : X → ℕ) (xs : List X) (i : ℕ) (x : X) → i < length xs → x ≡ get_or xs i x → sum (map f (take (i + 1) xs)) ≡ sum (map f (take i xs)) + f x
sum_next f xs i x lt is =
    ap (λ ys. sum (map f ys)) (take_next xs i x lt is) ∙ sum-map f (take i xs ++ x ∷ []) ∙ sum_by_push f (take i xs) x ∙ ap (λ (n : ℕ). n + f x) (sym (sum-map f (take i xs)))

-- sums that stop at the greatest number
pub capped_sum : (total sum next more : ℕ) → total ≡ min (min sum (2 ^ 32 - 1) + min next (2 ^ 32 - 1)) (2 ^ 32 - 1) → more ≡ sum + next → total ≡ min more (2 ^ 32 - 1)
capped_sum total sum next more is same = grind (arith, common_steps)
