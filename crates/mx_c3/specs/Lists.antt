-- Lists by what is among them, and in which order.
use Rattle.std.specs.Prelude.{◌≡◌, List, [], ◌∷◌, ◌⊎◌}

-- x is among xs
abbrev pub Has : {X : Type 0} → List X → X → Type 0
Has [] x = ⊥
Has (y ∷ ys) x = (y ≡ x) ⊎ Has ys x

-- x is in one of the lists
abbrev pub Among : {X : Type 0} → List (List X) → X → Type 0
Among [] x = ⊥
Among (xs ∷ lists) x = Has xs x ⊎ Among lists x

-- nothing stands twice
abbrev pub Distinct : {X : Type 0} → List X → Type 0
Distinct [] = Unit {0}
Distinct (x ∷ xs) = (Has xs x → ⊥) × Distinct xs

-- the items of xs stand in ys in the same order, others among them
abbrev pub Within : {X : Type 0} → List X → List X → Type 0
Within [] ys = Unit {0}
Within (x ∷ xs) [] = ⊥
Within (x ∷ xs) (y ∷ ys) = ((y ≡ x) × Within xs ys) ⊎ Within (x ∷ xs) ys

-- no list has an item twice
abbrev pub AllDistinct : {X : Type 0} → List (List X) → Type 0
AllDistinct [] = Unit {0}
AllDistinct (xs ∷ lists) = Distinct xs × AllDistinct lists
