-- Items in chunks of one length.
use Rattle.std.specs.Prelude.{◌≡◌, ℕ, List, [], ◌∷◌, ◌++◌, length, Option, Some, None}

-- the items of the chunks in order
abbrev pub joined : {X : Type 0} → List (List X) → List X
joined [] = []
joined (c ∷ cs) = c ++ joined cs

-- each chunk has n items
abbrev pub IsFull : {X : Type 0} → ℕ → List (List X) → Type 0
IsFull n [] = Unit
IsFull n (c ∷ cs) = (length c ≡ n) × IsFull n cs

-- the items of a list that may not be there
abbrev pub or_empty : {X : Type 0} → Option (List X) → List X
or_empty None = []
or_empty (Some xs) = xs
