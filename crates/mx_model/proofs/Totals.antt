-- Sums over spaces where one is put in the place of another.
use Rattle.std.proofs.Common.{◌≡◌, ℕ, ◌+◌, ◌≤◌, List, map, set, get_or, Some, slice_get, ap, arith}
use Rattle.std.specs.Prelude.{sum}
use Rattle.std.specs.List.{sum_by}
use Rattle.std.proofs.lemmas.Option.{get_or_from_slice_get, slice_get_within}
use Rattle.std.proofs.lemmas.List.Sums.{sum-map, sum_by-set, get_or-le-sum_by}

module _ {X : Type 0} (f : X → ℕ) (xs : List X) (i : ℕ) (old : X) (at : slice_get xs i ≡ Some old) where
  same : f (get_or xs i old) ≡ f old
  same = ap f (get_or_from_slice_get xs i old old at)

  -- an item counts at most as all do
  pub part : f old ≤ sum (map f xs)
  part =
      let all : sum (map f xs) ≡ sum_by f xs = sum-map f xs in
      let most : f (get_or xs i old) ≤ sum_by f xs = get_or-le-sum_by f xs i old (slice_get_within xs i old at) in
      let is : f (get_or xs i old) ≡ f old = same in
      omega arith

  pub put : (new : X) → sum (map f (set xs i new)) + f old ≡ sum (map f xs) + f new
  put new =
      let before : sum (map f xs) ≡ sum_by f xs = sum-map f xs in
      let after : sum (map f (set xs i new)) ≡ sum_by f (set xs i new) = sum-map f (set xs i new) in
      let both : sum_by f (set xs i new) + f (get_or xs i old) ≡ sum_by f xs + f new = sum_by-set f xs i new old (slice_get_within xs i old at) in
      let is : f (get_or xs i old) ≡ f old = same in
      omega arith
