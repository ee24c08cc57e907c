-- Base lists in which each base stands before its spaces.
use Rattle.std.specs.Prelude.{ℕ, suc, ◌<◌, List, [], ◌∷◌}
use Rattle.mx_c3.specs.declared.space.SpaceId.{SpaceId}
use Rattle.mx_c3.specs.Lists.{Has, Distinct}

-- each of the spaces has a place below n
abbrev pub AllBelow : ℕ → List SpaceId → Type 0
AllBelow n spaces = (x : SpaceId) → Has spaces x → x.0 < n

-- the lists of the spaces from place n on: each base has a lower place than its space, and no list has one twice
abbrev pub IsInOrder : ℕ → List (List SpaceId) → Type 0
IsInOrder n [] = Unit {0}
IsInOrder n (bases ∷ lists) = AllBelow n bases × Distinct bases × IsInOrder (suc n) lists
