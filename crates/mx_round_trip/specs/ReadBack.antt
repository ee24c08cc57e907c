-- Printing and parsing are inverse.
use Rattle.std.specs.Prelude.{ℕ, ◌≤◌, List, length, Some, Ok}
use Rattle.mx_grammar.specs.Spelling.{Language, SpellsIn}
use Rattle.mx_grammar.specs.Limits.{Limits, IsShort, AnswersWithin}

-- What a source spells, this text of it spells too, where it is no longer than a source may be.
abbrev pub ReadsBack : {A : Type 0} → Language A → List ℕ → A → List ℕ → Type 0
ReadsBack L source x text = SpellsIn L source x → length text ≤ 65536 → SpellsIn L text x

-- The same where the text is within all limits of a source: it may open more brackets at once than the source did.
abbrev pub ReadsBackWithin : {A : Type 0} → Language A → List ℕ → A → List ℕ → Type 0
ReadsBackWithin L source x text = SpellsIn L source x → IsShort (Some text) → SpellsIn L text x

-- What is given for a source within the limits is given for this text too.
abbrev pub GivenAgain : {A : Type 0} → Language A → Limits A → List ℕ → A → List ℕ → Type 0
GivenAgain L limits source x text = AnswersWithin L limits source (Ok x) → AnswersWithin L limits text (Ok x)
