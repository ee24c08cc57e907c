-- What goes by month.
use Rattle.std.specs.Prelude.{ℕ, zero, suc, ◌/◌, List, [], ◌∷◌, ◌++◌}
use Rattle.mx_plain.specs.Figures.{Figure, plus, nought}

-- months are counted from 0; the year of a month
abbrev pub duration : ℕ → ℕ
duration t = t / 12

-- the first n of a sequence
unfoldable pub first : {A : Type 0} → ℕ → (ℕ → A) → List A
first zero sequence = []
first (suc n) sequence = first n sequence ++ sequence n ∷ []

-- the sum of the first n, from 0.0 and in their order
unfoldable pub sum_of : ℕ → (ℕ → Figure) → Figure
sum_of zero sequence = nought
sum_of (suc n) sequence = plus (sum_of n sequence) (sequence n)
