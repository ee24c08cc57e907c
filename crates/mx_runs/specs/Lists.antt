-- Lists by what is among them.
use Rattle.std.specs.Prelude.{◌≡◌, List, [], ◌∷◌, ◌⊎◌}

-- x is among xs
abbrev pub Has : {X : Type 0} → List X → X → Type 0
Has [] x = ⊥
Has (y ∷ ys) x = (y ≡ x) ⊎ Has ys x

-- nothing stands twice
abbrev pub Distinct : {X : Type 0} → List X → Type 0
Distinct [] = Unit {0}
Distinct (x ∷ xs) = (Has xs x → ⊥) × Distinct xs

-- nothing is in both
abbrev pub Disjoint : {X : Type 0} → List X → List X → Type 0
Disjoint {X} xs ys = (x : X) → Has xs x → Has ys x → ⊥

-- The third is what the second has beside what was seen before, each once, in order of first occurrence.
pub data FirstEach {X : Type 0} : List X → List X → List X → Type 0 where
  Done : {seen : List X} → FirstEach seen [] []
  Again : {seen xs ys : List X} (x : X) → Has seen x → FirstEach seen xs ys → FirstEach seen (x ∷ xs) ys
  First : {seen xs ys : List X} (x : X) → (Has seen x → ⊥) → FirstEach (x ∷ seen) xs ys → FirstEach seen (x ∷ xs) (x ∷ ys)

-- the second is the first, each once, in order of first occurrence
abbrev pub EachOnce : {X : Type 0} → List X → List X → Type 0
EachOnce xs ys = FirstEach [] xs ys
