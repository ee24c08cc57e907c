-- The whole numbers of a range, as Python's: from the first on, in steps, as long as they lie before the end.
use Rattle.std.specs.Prelude.{◌↔◌, ℕ, zero, suc, ◌+◌, ◌-◌, ◌/◌, ◌<◌, ℤ, pos, negsuc, ◌+ℤ◌, ◌-ℤ◌, ◌*ℤ◌, ◌<ℤ◌, List, [], ◌∷◌, ◌++◌, Err}
use Rattle.mx_value.specs.declared.value.Value.{Value}
use Rattle.mx_value.specs.declared.value.Value.TheVariants.{Int, Tup}
use Rattle.mx_value.specs.declared.fault.FaultKind.TheVariants.{Domain}
use Rattle.mx_ops.specs.Answers.{Answer, made}

-- how many steps of d fit into the way, the last one begun
abbrev pub steps : ℤ → ℕ → ℕ
steps (pos way) d = (way + (d - 1)) / d
steps (negsuc way) d = 0

-- How many numbers there are. No step is a step of 0.
abbrev pub range_length : ℤ → ℤ → ℤ → ℕ
range_length from to (pos d) = steps (to -ℤ from) d
range_length from to (negsuc d) = steps (from -ℤ to) (suc d)

-- so many numbers
abbrev pub numbers_from : ℤ → ℤ → ℕ → List Value
numbers_from from step zero = []
numbers_from from step (suc n) = numbers_from from step n ++ Int (from +ℤ pos n *ℤ step) ∷ []

abbrev pub range : ℤ → ℤ → ℤ → Answer
range from to (pos zero) = Err Domain
range from to (pos (suc d)) = made (Tup (numbers_from from (pos (suc d)) (range_length from to (pos (suc d)))))
range from to (negsuc d) = made (Tup (numbers_from from (negsuc d) (range_length from to (negsuc d))))

-- the numbers of a range are those that lie before its end: those from the left on with a step up, those from the
-- right on with a step down
abbrev pub UpToTheEnd : Type 0
UpToTheEnd = (from to : ℤ) (d i : ℕ) → i < range_length from to (pos (suc d)) ↔ ((from +ℤ pos i *ℤ pos (suc d)) <ℤ to)

abbrev pub DownToTheEnd : Type 0
DownToTheEnd = (from to : ℤ) (d i : ℕ) → i < range_length from to (negsuc d) ↔ (to <ℤ (from +ℤ pos i *ℤ negsuc d))
