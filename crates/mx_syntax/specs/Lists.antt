-- Lists of lists.
use Rattle.std.specs.Prelude.{List, [], ◌∷◌, ◌++◌}

-- the lists, one behind the other
abbrev pub flat : {X : Type 0} → List (List X) → List X
flat [] = []
flat (xs ∷ more) = xs ++ flat more
