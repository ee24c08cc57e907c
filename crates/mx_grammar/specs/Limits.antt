-- What a tree that is spelled is refused for: its loops, or its printed text.
use Rattle.std.specs.Prelude.{ℕ, ◌<◌, ◌≤◌, List, length, Option, Some, None, ◌⊎◌, Result, Ok, Err}
use Rattle.mx_grammar.specs.declared.refusal.ParseRefusal.{ParseRefusal}
use Rattle.mx_grammar.specs.declared.refusal.ParseRefusal.TheVariants.{TooManyLoops, PrintsTooLong}
use Rattle.mx_grammar.specs.Spelling.{Language, SpellsIn, NestedAt, Refused}

-- How many loops stand in one another in a tree, and its printed text, where that has to be a source again.
pub record Limits (A : Type 0) : Type 0 where
  pub loops : A → ℕ
  pub printed : A → Option (List ℕ)

-- A printed text is within the limits of a source.
abbrev pub IsShort : Option (List ℕ) → Type 0
IsShort None = Unit {0}
IsShort (Some text) = (length text ≤ 65536) × ((place : ℕ) → NestedAt text place → ⊥)

-- It is longer than a source may be, or more than 64 brackets and indents are open at one of its tokens.
abbrev pub IsLong : Option (List ℕ) → Type 0
IsLong None = ⊥
IsLong (Some text) = (65536 < length text) ⊎ ((place : ℕ) × NestedAt text place)

pub record IsWithin {A : Type 0} (limits : Limits A) (x : A) : Type 0 where
  pub loops : limits.loops x ≤ 8
  pub short : IsShort (limits.printed x)

-- the limit that a tree is past, its loops first
abbrev pub IsPast : {A : Type 0} → Limits A → A → ParseRefusal → Type 0
IsPast limits x TooManyLoops = 8 < limits.loops x
IsPast limits x PrintsTooLong = (limits.loops x ≤ 8) × IsLong (limits.printed x)
IsPast limits x _ = ⊥

-- the source spells a tree that is past a limit
pub record SpellsPast {A : Type 0} (L : Language A) (limits : Limits A) (source : List ℕ) (e : ParseRefusal) : Type 0 where
  pub tree : A
  pub spells : SpellsIn L source tree
  pub past : IsPast limits tree e

-- the answer for a source of a language with limits
abbrev pub AnswersWithin : {A : Type 0} → Language A → Limits A → List ℕ → Result A ParseRefusal → Type 0
AnswersWithin L limits source (Ok x) = SpellsIn L source x × IsWithin limits x
AnswersWithin L limits source (Err e) = Refused L source e ⊎ SpellsPast L limits source e
