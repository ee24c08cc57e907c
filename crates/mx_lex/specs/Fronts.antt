-- The front of a source, up to the first token that is one mark of one byte.
use Rattle.std.specs.Prelude.{ℕ, ◌+◌, ◌-◌, zero, suc, Bool, false, ◌&&◌, ◌==◌, nat_lt, List, [], ◌∷◌, length, slice_get, if◌then◌else◌, Option, None, Some, Result, Ok, Err}
use Rattle.mx_lex.specs.Lexing.{Reading, step_at, beginning}
use Rattle.mx_lex.specs.declared.Token.{Token}
use Rattle.mx_lex.specs.declared.LexRefusal.{LexRefusal}
use Rattle.mx_lex.specs.declared.LexRefusal.TheVariants.{TooLong}

abbrev pub Front : Type 0
Front = Result ℕ LexRefusal

abbrev pub is_byte : ℕ → Option ℕ → Bool
is_byte mark None = false
is_byte mark (Some b) = b == mark

-- a token of one byte, which is this one
abbrev pub is_mark : List ℕ → ℕ → Token → Bool
is_mark source mark token = (token.len == 1) && is_byte mark (slice_get source token.at)

-- where the first such token stands
abbrev pub place_among : List ℕ → ℕ → List Token → Option ℕ
place_among source mark [] = None
place_among source mark (token ∷ tokens) = if is_mark source mark token then Some token.at else place_among source mark tokens

abbrev pub or_further : Option ℕ → Front → Front
or_further None further = further
or_further (Some place) further = Ok place

-- The same among the tokens of the rest from this place on, or the end where none is one. A trouble counts where it stands
-- in front of it. The first `passed` bytes of the rest belong to what was given before.
unfoldable pub front_from : List ℕ → ℕ → List ℕ → ℕ → ℕ → Reading → Front
front_from source mark [] passed at reading = Ok at
front_from source mark (b ∷ bs) (suc passed) at reading = front_from source mark bs passed (at + 1) reading
front_from source mark (b ∷ bs) zero at reading =
    elim (step_at at reading (b ∷ bs)) [
      | Ok step ↦ or_further (place_among source mark step.given) (front_from source mark bs (step.taken - 1) (at + 1) step.next)
      | Err e ↦ Err e
    ]

-- how many bytes stand in front of the first token of a source that is this mark, which are all where none is, or the first
-- trouble in front of it
unfoldable pub front_of : List ℕ → ℕ → Front
front_of source mark = if nat_lt 65536 (length source) then Err TooLong else front_from source mark source 0 0 beginning
