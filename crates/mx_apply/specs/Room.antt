-- The room that is left behind a text.
use Rattle.std.specs.Prelude.{◌≡◌, ℕ, ◌+◌, ◌<◌, Option, Some, None}

-- what is left of so much room behind so many bytes, or None where they do not fit
abbrev pub IsRoom : Option ℕ → ℕ → ℕ → Type 0
IsRoom None room bytes = room < bytes
IsRoom (Some left) room bytes = bytes + left ≡ room
