-- Members by key, in order of first definition.
use Rattle.std.specs.Prelude.{Bool, List, [], ◌∷◌, if◌then◌else◌}

-- the value of a key, at its place where the key is there and else at the end
abbrev pub define : {K X : Type 0} → (K → K → Bool) → List (K × X) → K → X → List (K × X)
define same [] key x = (key, x) ∷ []
define same (m ∷ ms) key x = if same key m.0 then (m.0, x) ∷ ms else m ∷ define same ms key x

-- without the first entry of a key
abbrev pub without : {K X : Type 0} → (K → K → Bool) → List (K × X) → K → List (K × X)
without same [] key = []
without same (m ∷ ms) key = if same key m.0 then ms else m ∷ without same ms key
