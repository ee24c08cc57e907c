-- Numbers that are at most so much.
use Rattle.std.specs.Prelude.{ℕ, Bool, true, nat_le, ◌&&◌, List, [], ◌∷◌}

abbrev pub few : ℕ → List ℕ → Bool
few most [] = true
few most (n ∷ ns) = nat_le n most && few most ns
