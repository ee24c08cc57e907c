-- How large a value is: 1, its bytes for a text, its items for a tuple or an address.
use Rattle.std.specs.Prelude.{ℕ, ◌+◌, length, sum}
use Rattle.mx_value.specs.declared.value.Value.{Value, fold-Value}
use Rattle.mx_value.specs.declared.value.Segment.{Segment, fold-Segment}
use Rattle.mx_value.specs.declared.value.Segment.TheOpen.{Segment-F, Value-F, CellsAt-F}

abbrev pub segment_step : Segment-F ℕ ℕ ℕ → ℕ
segment_step (Segment-F.Name name) = 0
segment_step (Segment-F.Item items) = sum items

abbrev pub cells_step : CellsAt-F ℕ ℕ ℕ → ℕ
cells_step cells = sum cells.space

abbrev pub value_step : Value-F ℕ ℕ ℕ → ℕ
value_step Value-F.Nothing = 1
value_step (Value-F.Flag b) = 1
value_step (Value-F.Int n) = 1
value_step (Value-F.Fix x) = 1
value_step (Value-F.Text t) = 1 + length t
value_step (Value-F.Tup items) = 1 + sum items
value_step (Value-F.Space segments) = 1 + sum segments
value_step (Value-F.Cells n) = 1 + n
value_step (Value-F.Table t) = 1

abbrev pub size_of : Value → ℕ
size_of = fold-Value ℕ ℕ ℕ segment_step value_step cells_step

abbrev pub size_of_segment : Segment → ℕ
size_of_segment = fold-Segment ℕ ℕ ℕ segment_step value_step cells_step
