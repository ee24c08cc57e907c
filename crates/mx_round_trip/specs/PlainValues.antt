-- Which values have a literal, and that the printed text of each is one.
use Rattle.std.specs.Prelude.{ℕ, ◌≡◌, ◌≤◌, ◌^◌, ◌&&◌, Bool, true, nat_le, nat_lt, List, length, ℤ, pos, negsuc, unsigned_abs}
use Rattle.std.specs.List.{list_all}
use Rattle.mx_value.specs.declared.value.Value.{Value, fold-Value}
use Rattle.mx_value.specs.declared.value.Segment.{Segment, fold-Segment}
use Rattle.mx_value.specs.declared.value.CellsAt.{CellsAt, fold-CellsAt}
use Rattle.mx_value.specs.declared.value.Segment.TheOpen.{Segment-F, Value-F, CellsAt-F}
use Rattle.mx_value.specs.Label.{is_printable}
use Rattle.mx_value.specs.Plain.{is_plain}
use Rattle.mx_value.specs.Nesting.{nesting_of}
use Rattle.mx_print.specs.Values.{value_text}
use Rattle.mx_grammar.specs.Literals.{literal_text}
use Rattle.mx_grammar.specs.Spelling.{SpellsIn}

-- a whole number of 64 bits, from -2^63 on
abbrev pub has_64_bits : ℤ → Bool
has_64_bits (pos n) = nat_lt n (2 ^ 63)
has_64_bits (negsuc n) = nat_lt n (2 ^ 63)

-- a decimal number, given in units of 10^-9
abbrev pub is_decimal : ℤ → Bool
is_decimal z = nat_le (unsigned_abs z) (10 ^ 19)

abbrev segment_step : Segment-F Bool Bool Bool → Bool
segment_step (Segment-F.Name name) = list_all is_printable name
segment_step (Segment-F.Item items) = list_all (λ typed. typed) items

abbrev cells_step : CellsAt-F Bool Bool Bool → Bool
cells_step cells = list_all (λ typed. typed) cells.space && list_all is_printable cells.name

abbrev value_step : Value-F Bool Bool Bool → Bool
value_step Value-F.Nothing = true
value_step (Value-F.Flag b) = true
value_step (Value-F.Int n) = has_64_bits n
value_step (Value-F.Fix x) = is_decimal x
value_step (Value-F.Text t) = list_all is_printable t
value_step (Value-F.Tup items) = list_all (λ typed. typed) items
value_step (Value-F.Space segments) = list_all (λ typed. typed) segments
value_step (Value-F.Cells cells) = cells
value_step (Value-F.Table t) = list_all is_printable t

-- Each number in the value is within the range of its type, and each text and name is printable.
abbrev pub is_typed : Value → Bool
is_typed = fold-Value Bool Bool Bool segment_step value_step cells_step

abbrev pub is_typed_segment : Segment → Bool
is_typed_segment = fold-Segment Bool Bool Bool segment_step value_step cells_step

abbrev pub is_typed_cells : CellsAt → Bool
is_typed_cells = fold-CellsAt Bool Bool Bool segment_step value_step cells_step

-- a value that has a literal, be it longer than a source may be
pub record IsLiteral (v : Value) : Type 0 where
  pub plain : is_plain v ≡ true
  pub typed : is_typed v ≡ true
  pub nesting : nesting_of v ≤ 64

-- Its printed text spells the value, unless it is longer than a source may be.
abbrev pub IsSpelledByText : Value → Type 0
IsSpelledByText v = length (value_text v) ≤ 65536 → SpellsIn literal_text (value_text v) v

-- So it is with each value that has a literal, also where no source gave it.
abbrev pub PlainValuesReadBack : Type 0
PlainValuesReadBack = (v : Value) → IsLiteral v → IsSpelledByText v

-- No source spells any other value.
abbrev pub SpelledValuesAreLiterals : Type 0
SpelledValuesAreLiterals =
    (source : List ℕ) (v : Value) → SpellsIn literal_text source v → IsLiteral v
