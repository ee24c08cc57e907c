-- Sizes and nesting of tuples.
use Rattle.std.proofs.Common.{◌≡◌, ℕ, ◌+◌, ◌-◌, ◌^◌, ◌&&◌, min, max, Bool, nat_lt, nat_le, List, [], ◌∷◌, ◌++◌, map, sum, refl, sym, ◌∙◌, ap, arith}
use Rattle.std.specs.List.{list_all}
use Rattle.std.proofs.lemmas.Bool.Decides.{nat_tests}
use Rattle.std.proofs.lemmas.List.{map-append}
use Rattle.std.proofs.lemmas.List.Sums.{sum_by-append}
use Rattle.mx_value.specs.Size.{size_of}
use Rattle.mx_value.specs.Nesting.{nesting_of, greatest}
use Rattle.mx_value.specs.declared.value.Value.{Value}
use Rattle.mx_value.specs.declared.value.Value.TheVariants as made
use Rattle.mx_value.specs.declared.value.Segment.TheOpen.{Value-F}
use Rattle.mx_value.specs.declared.value.Segment.TheFolds.{fold-roll-Value}

pub size-Tup : (items : List Value) → size_of (made.Tup items) ≡ 1 + sum (map size_of items)
size-Tup items = ap size_of (sym (made.rolls-Tup items)) ∙ fold-roll-Value _ _ _ _ _ _ (Value-F.Tup items)

pub nesting-Tup : (items : List Value) → nesting_of (made.Tup items) ≡ 1 + greatest (map nesting_of items)
nesting-Tup items = ap nesting_of (sym (made.rolls-Tup items)) ∙ fold-roll-Value _ _ _ _ _ _ (Value-F.Tup items)

joined_test : (m n s : ℕ) → s ≡ m + n → nat_lt (min (min m (2 ^ 64 - 1) + min n (2 ^ 64 - 1)) (2 ^ 64 - 1)) 1_000_000 ≡ nat_le (1 + s) 1_000_000
joined_test m n s e = grind (arith, nat_tests)

pub joined_sum : (xs ys : List Value) → sum (map size_of (xs ++ ys)) ≡ sum (map size_of xs) + sum (map size_of ys)
joined_sum xs ys = ap sum (map-append size_of xs ys) ∙ sum_by-append (λ n. n) (map size_of xs) (map size_of ys)

pub joined-size : (xs ys : List Value) → nat_lt (min (min (sum (map size_of xs)) (2 ^ 64 - 1) + min (sum (map size_of ys)) (2 ^ 64 - 1)) (2 ^ 64 - 1)) 1_000_000 ≡ nat_le (size_of (made.Tup (xs ++ ys))) 1_000_000
joined-size xs ys = joined_test (sum (map size_of xs)) (sum (map size_of ys)) (sum (map size_of (xs ++ ys))) (joined_sum xs ys) ∙ ap (λ n. nat_le n 1_000_000) (sym (size-Tup (xs ++ ys)))

pub greatest-append : (ms ns : List ℕ) → greatest (ms ++ ns) ≡ max (greatest ms) (greatest ns)
greatest-append [] ns = omega arith
greatest-append (m ∷ ms) ns = omega (arith, greatest-append ms ns)

both_less : (m n : ℕ) → (nat_lt m 64 && nat_lt n 64) ≡ nat_lt (max m n) 64
both_less m n = grind (arith, nat_tests)

less_or_at : (m n g : ℕ) → g ≡ max m n → (nat_lt m 64 && nat_lt n 64) ≡ nat_le (1 + g) 64
less_or_at m n g e = grind (arith, nat_tests)

shallow : (vs : List Value) → list_all (λ v. nat_lt (nesting_of v) 64) vs ≡ nat_lt (greatest (map nesting_of vs)) 64
shallow [] = refl
shallow (v ∷ vs) = ap (λ t. nat_lt (nesting_of v) 64 && t) (shallow vs) ∙ both_less (nesting_of v) (greatest (map nesting_of vs))

pub joined-nesting : (xs ys : List Value) → (list_all (λ v. nat_lt (nesting_of v) 64) xs && list_all (λ v. nat_lt (nesting_of v) 64) ys) ≡ nat_le (nesting_of (made.Tup (xs ++ ys))) 64
joined-nesting xs ys =
    (λ i. shallow xs i && shallow ys i)
    ∙ less_or_at (greatest (map nesting_of xs)) (greatest (map nesting_of ys)) (greatest (map nesting_of (xs ++ ys))) (ap greatest (map-append nesting_of xs ys) ∙ greatest-append (map nesting_of xs) (map nesting_of ys))
    ∙ ap (λ n. nat_le n 64) (sym (nesting-Tup (xs ++ ys)))

-- whether each is shallow
abbrev pub are_shallow : List Value → Bool
are_shallow = list_all (λ v. nat_lt (nesting_of v) 64)

pub nested : (xs ys : List Value) (a b : Bool) → a ≡ are_shallow xs → b ≡ are_shallow ys → (a && b) ≡ nat_le (nesting_of (made.Tup (xs ++ ys))) 64
nested xs ys a b e f = (λ i. e i && f i) ∙ joined-nesting xs ys
