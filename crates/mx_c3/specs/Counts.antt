-- In how many tails each space stands, kept in a table by the space's place.
use Rattle.std.specs.Prelude.{◌≡◌, ℕ, ◌+◌, ◌<◌, List, [], ◌∷◌, length, slice_index, if◌then◌else◌}
use Rattle.mx_c3.specs.declared.space.SpaceId.{SpaceId}
use Rattle.mx_c3.specs.Lists.{Among}
use Rattle.mx_c3.specs.Merge.{same, tail}

-- how often x stands among the spaces
abbrev pub count : List SpaceId → SpaceId → ℕ
count [] x = 0
count (y ∷ ys) x = (if same y x then 1 else 0) + count ys x

-- how often x stands in the tails
abbrev pub times : List (List SpaceId) → SpaceId → ℕ
times [] x = 0
times (xs ∷ lists) x = count (tail xs) x + times lists x

-- the table has a place for each space of the lists
abbrev pub HasRoom : List (List SpaceId) → List ℕ → Type 0
HasRoom lists counts = (x : SpaceId) → Among lists x → x.0 < length counts

-- a table with a place for each space of the lists has the counts of the first of them
pub record CountsFirst (lists first : List (List SpaceId)) (counts : List ℕ) : Type 0 where
  pub room : HasRoom lists counts
  pub right : (x : SpaceId) → x.0 < length counts → slice_index counts x.0 ≡ times first x

abbrev pub IsCounted : List (List SpaceId) → List ℕ → Type 0
IsCounted lists counts = CountsFirst lists lists counts

-- the second table has for each space as much more as it stands in xs
abbrev pub CountsMore : List ℕ → List SpaceId → List ℕ → Type 0
CountsMore before xs after = (length after ≡ length before) × ((x : SpaceId) → x.0 < length before → slice_index after x.0 ≡ slice_index before x.0 + count xs x)

-- no count is more than zero
abbrev pub AreZeros : List ℕ → Type 0
AreZeros counts = (i : ℕ) → slice_index counts i ≡ 0
