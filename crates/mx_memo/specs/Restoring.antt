-- What a roll-back restores.
use Rattle.std.specs.Prelude.{◌≡◌, ℕ, ◌<◌, ◌≤◌, List, [], ◌∷◌, ◌++◌}
use Rattle.mx_vertices.specs.Places.{Has}
use Rattle.mx_vertices.specs.Kept.{Kept, asked, IsTouched, Sifts}

-- each asks none but nodes that stand before it
abbrev pub AskBefore : List ℕ → List Kept → Type 0
AskBefore before [] = Unit {0}
AskBefore before (r ∷ rs) = ((m : ℕ) → Has r.sources (asked m) → Has before m) × AskBefore (r.id ∷ before) rs

-- no two have one id
abbrev pub AreApart : List Kept → Type 0
AreApart [] = Unit {0}
AreApart (r ∷ rs) = ((s : Kept) → Has rs s → r.id ≡ s.id → ⊥) × AreApart rs

-- where all of these were held by the stamp, and the others after it, the roll-back to the stamp leaves exactly these
abbrev pub Restores : Type 0
Restores = (stamp : ℕ) (held more kept : List Kept) → ((r : Kept) → Has held r → r.stamp ≤ stamp) → ((r : Kept) → Has more r → stamp < r.stamp) → AreApart (held ++ more) → AskBefore [] (held ++ more) → Sifts (IsTouched (λ r. stamp < r.stamp) (held ++ more)) (held ++ more) kept → kept ≡ held
