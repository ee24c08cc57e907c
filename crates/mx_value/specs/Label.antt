-- The bytes that a label may hold.
use Rattle.std.specs.Prelude.{ℕ, Bool, ◌≤◌, List, Option, position, not}
use Rattle.std.specs.Int.{is_in_range}

-- a printable ASCII byte
abbrev pub IsPrintable : ℕ → Type 0
IsPrintable b = (32 ≤ b) × (b ≤ 126)

-- the same, as a test
abbrev pub is_printable : ℕ → Bool
is_printable b = is_in_range 32 126 b

-- where the first byte stands that is not printable
abbrev pub first_unprintable : List ℕ → Option ℕ
first_unprintable bytes = position (λ b. not (is_printable b)) bytes
