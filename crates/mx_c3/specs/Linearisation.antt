-- The C3 linearisation of a space over its bases.
use Rattle.std.specs.Prelude.{◌≡◌, ℕ, zero, suc, ◌<◌, ◌↔◌, List, [], ◌∷◌, ◌++◌, length, slice_index_or, Result, Ok, Err, ◌⊎◌}
use Rattle.mx_c3.specs.declared.space.SpaceId.{SpaceId}
use Rattle.mx_c3.specs.Lists.{Has, Among, Distinct, AllDistinct, Within}
use Rattle.mx_c3.specs.Merge.{put, merge}

abbrev pub bases_of : List (List SpaceId) → SpaceId → List SpaceId
bases_of lists s = slice_index_or lists s.0 []

abbrev pub before_all : Result (List SpaceId) (List SpaceId) → Result (List (List SpaceId)) (List SpaceId) → Result (List (List SpaceId)) (List SpaceId)
before_all (Err blocked) rest = Err blocked
before_all (Ok order) (Err blocked) = Err blocked
before_all (Ok order) (Ok orders) = Ok (order ∷ orders)

-- the orders of all these spaces, or the heads that block the first that has none
abbrev pub each : (SpaceId → Result (List SpaceId) (List SpaceId)) → List SpaceId → Result (List (List SpaceId)) (List SpaceId)
each order [] = Ok []
each order (b ∷ bs) = before_all (order b) (each order bs)

abbrev pub from_orders : SpaceId → List SpaceId → Result (List (List SpaceId)) (List SpaceId) → Result (List SpaceId) (List SpaceId)
from_orders s bases (Err blocked) = Err blocked
from_orders s bases (Ok orders) = put s (merge (orders ++ bases ∷ []))

-- the space, then the merge of its bases' orders and of their list
abbrev pub step : List (List SpaceId) → (SpaceId → Result (List SpaceId) (List SpaceId)) → SpaceId → Result (List SpaceId) (List SpaceId)
step lists order s = from_orders s (bases_of lists s) (each order (bases_of lists s))

abbrev pub linear : List (List SpaceId) → ℕ → SpaceId → Result (List SpaceId) (List SpaceId)
linear lists zero s = Err []
linear lists (suc k) s = step lists (linear lists k) s

-- the order of a space, or the heads that block it or its first base that has none; no way along bases is longer than there are spaces
unfoldable pub c3 : List (List SpaceId) → SpaceId → Result (List SpaceId) (List SpaceId)
c3 lists s = linear lists (length lists) s

-- from a through these spaces to b, each a base of the one before
abbrev pub Leads : List (List SpaceId) → SpaceId → List SpaceId → SpaceId → Type 0
Leads lists a [] b = Has (bases_of lists a) b
Leads lists a (x ∷ xs) b = Has (bases_of lists a) x × Leads lists x xs b

-- b is a base of a, or a base of its bases, and so on
pub record Reaches (lists : List (List SpaceId)) (a b : SpaceId) : Type 0 where
  pub via : List SpaceId
  pub leads : Leads lists a via b

-- what a linearisation needs: each base is one of the spaces, no list has one twice, and no space is among its own bases' bases
pub record AreSound (lists : List (List SpaceId)) : Type 0 where
  pub in_range : (x : SpaceId) → Among lists x → x.0 < length lists
  pub distinct : AllDistinct lists
  pub no_ring : (x : SpaceId) → Reaches lists x x → ⊥

-- what each order keeps
pub record IsOrder (lists : List (List SpaceId)) (s : SpaceId) (order : List SpaceId) : Type 0 where
  -- it begins with the space
  pub begins : (rest : List SpaceId) × (order ≡ s ∷ rest)
  -- it has the space and all that it reaches, each once
  pub once : Distinct order
  pub reached : (x : SpaceId) → Has order x ↔ ((s ≡ x) ⊎ Reaches lists s x)
  -- each space stands before its bases, and these stand in the order of their list
  pub precedence : (x : SpaceId) → Has order x → Within (x ∷ bases_of lists x) order
  -- each space's own order is kept
  pub monotone : (x : SpaceId) → Has order x → (own : List SpaceId) × (c3 lists x ≡ Ok own) × Within own order
