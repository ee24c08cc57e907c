-- How a table of tails follows a list whose head is taken.
use Rattle.std.specs.Prelude.{◌≡◌, ℕ, ◌+◌, ◌<◌, ◌≤◌, List, [], ◌∷◌, length, slice_index, if◌then◌else◌}
use Rattle.mx_c3.specs.declared.space.SpaceId.{SpaceId}
use Rattle.mx_c3.specs.Lists.{Has}
use Rattle.mx_c3.specs.Merge.{same, tail}
use Rattle.mx_c3.specs.Counts.{count}

-- the list without its head, if that is x
abbrev pub drop_head : SpaceId → List SpaceId → List SpaceId
drop_head x [] = []
drop_head x (y ∷ ys) = if same y x then ys else y ∷ ys

-- the lists without x at their heads
abbrev pub drop_heads : SpaceId → List (List SpaceId) → List (List SpaceId)
drop_heads x [] = []
drop_heads x (xs ∷ lists) = drop_head x xs ∷ drop_heads x lists

-- the table has each space of the list, and counts at least its tail
pub record CanTake (xs : List SpaceId) (counts : List ℕ) : Type 0 where
  pub room : (x : SpaceId) → Has xs x → x.0 < length counts
  pub counted : (x : SpaceId) → Has xs x → count (tail xs) x ≤ slice_index counts x.0

-- the table changes as the tail does
pub record Follows (xs : List SpaceId) (before : List ℕ) (ys : List SpaceId) (after : List ℕ) : Type 0 where
  pub long : length after ≡ length before
  pub moved : (x : SpaceId) → x.0 < length before → slice_index before x.0 + count (tail ys) x ≡ slice_index after x.0 + count (tail xs) x
