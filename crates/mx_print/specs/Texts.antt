-- Texts, as lists of bytes, and how they are put together.
use Rattle.std.specs.Prelude.{ℕ, List, [], ◌∷◌, ◌++◌, map, codes}
use Rattle.std.specs.List.{concat}

abbrev pub Text : Type 0
Text = List ℕ

-- the texts, with the separator between each two
abbrev pub separated : Text → List Text → Text
separated separator [] = []
separated separator (t ∷ ts) = t ++ concat (map (λ (u : Text). separator ++ u) ts)

abbrev pub commas : List Text → Text
commas ts = separated (codes ", ") ts
