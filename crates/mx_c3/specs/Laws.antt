-- Laws of merges and linearisations.
use Rattle.std.specs.Prelude.{◌≡◌, ℕ, ◌<◌, ◌↔◌, List, [], ◌∷◌, ◌++◌, length, Some, Ok, Err}
use Rattle.mx_c3.specs.declared.space.SpaceId.{SpaceId}
use Rattle.mx_c3.specs.Lists.{Has, Among, Distinct, Within}
use Rattle.mx_c3.specs.Merge.{tail, heads, next, without_all, each_once, merge, IsMerge}
use Rattle.mx_c3.specs.InOrder.{IsInOrder}
use Rattle.mx_c3.specs.Linearisation.{bases_of, step, c3, Reaches, AreSound}

-- x stands in the tail of a list
pub record IsBehind (lists : List (List SpaceId)) (x : SpaceId) : Type 0 where
  pub list : List SpaceId
  pub among : Has lists list
  pub has : Has (tail list) x

-- x is the first head that stands in no tail
pub record IsNext (lists : List (List SpaceId)) (x : SpaceId) : Type 0 where
  pub before : List SpaceId
  pub after : List SpaceId
  pub split : heads lists ≡ before ++ x ∷ after
  pub free : IsBehind lists x → ⊥
  pub passed : (y : SpaceId) → Has before y → IsBehind lists y

-- after these heads were taken in turn none can be taken, and these heads are left
abbrev pub IsBlocked : List (List SpaceId) → List SpaceId → List SpaceId → Type 0
IsBlocked lists [] blocked = ((y : SpaceId) → Has (heads lists) y → IsBehind lists y) × (heads lists ≡ [] → ⊥) × (blocked ≡ each_once (heads lists))
IsBlocked lists (x ∷ taken) blocked = IsNext lists x × IsBlocked (without_all x lists) taken blocked

-- the head to take is the first that stands in no tail
abbrev pub TakesNext : Type 0
TakesNext = (lists : List (List SpaceId)) (x : SpaceId) → (next lists ≡ Some x) ↔ IsNext lists x

-- a list is the merge exactly where it takes the next head each time until nothing is left
abbrev pub MergesInTurn : Type 0
MergesInTurn = (lists : List (List SpaceId)) (order : List SpaceId) → (merge lists ≡ Ok order) ↔ IsMerge lists order

-- the heads block the merge exactly where taking the next head each time comes to them
abbrev pub BlocksInTurn : Type 0
BlocksInTurn = (lists : List (List SpaceId)) (blocked : List SpaceId) → (merge lists ≡ Err blocked) ↔ ((taken : List SpaceId) × IsBlocked lists taken blocked)

-- a merge has each item of the lists once, and keeps the order of each list
pub record IsKept (lists : List (List SpaceId)) (order : List SpaceId) : Type 0 where
  pub once : Distinct order
  pub members : (x : SpaceId) → Has order x ↔ Among lists x
  pub keeps : (list : List SpaceId) → Has lists list → Within list order

-- the linearisation is the space before the merge of its bases' linearisations and of their list
abbrev pub IsPublished : Type 0
IsPublished = (lists : List (List SpaceId)) (s : SpaceId) → AreSound lists → s.0 < length lists → c3 lists s ≡ step lists (c3 lists) s

-- lists whose spaces have ranks that fall along each base have no ring
abbrev pub RanksFall : Type 0
RanksFall = (lists : List (List SpaceId)) (rank : SpaceId → ℕ) → ((s b : SpaceId) → Has (bases_of lists s) b → rank b < rank s) → (x : SpaceId) → Reaches lists x x → ⊥

-- so have lists in which each base stands before its spaces
abbrev pub InOrderIsSound : Type 0
InOrderIsSound = (lists : List (List SpaceId)) → IsInOrder 0 lists → AreSound lists
