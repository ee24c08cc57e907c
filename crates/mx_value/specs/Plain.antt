-- Which values may be arguments: None, flags, whole and decimal numbers, texts, and tuples of these.
use Rattle.std.specs.Prelude.{Bool, true, false}
use Rattle.std.specs.List.{list_all}
use Rattle.mx_value.specs.declared.value.Value.{Value, fold-Value}
use Rattle.mx_value.specs.declared.value.Segment.TheOpen.{Segment-F, Value-F, CellsAt-F}

-- an address has no say
abbrev segment_step : Segment-F Bool Bool Bool → Bool
segment_step segment = false

abbrev cells_step : CellsAt-F Bool Bool Bool → Bool
cells_step cells = false

abbrev value_step : Value-F Bool Bool Bool → Bool
value_step Value-F.Nothing = true
value_step (Value-F.Flag b) = true
value_step (Value-F.Int n) = true
value_step (Value-F.Fix x) = true
value_step (Value-F.Text t) = true
value_step (Value-F.Tup items) = list_all (λ plain. plain) items
value_step (Value-F.Space segments) = false
value_step (Value-F.Cells cells) = false
value_step (Value-F.Table t) = false

abbrev pub is_plain : Value → Bool
is_plain = fold-Value Bool Bool Bool segment_step value_step cells_step
