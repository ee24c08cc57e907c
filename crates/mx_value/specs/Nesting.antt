-- How deep a value is nested: 0 where it is no tuple, 1 for the empty tuple, one more than the greatest of its items for another.
use Rattle.std.specs.Prelude.{ℕ, ◌+◌, List, [], ◌∷◌, max}
use Rattle.mx_value.specs.declared.value.Value.{Value, fold-Value}
use Rattle.mx_value.specs.declared.value.Segment.TheOpen.{Segment-F, Value-F, CellsAt-F}

-- the greatest of some numbers, or 0 where there is none
abbrev pub greatest : List ℕ → ℕ
greatest [] = 0
greatest (n ∷ ns) = max n (greatest ns)

-- an address has no say
abbrev segment_step : Segment-F ℕ ℕ ℕ → ℕ
segment_step segment = 0

abbrev cells_step : CellsAt-F ℕ ℕ ℕ → ℕ
cells_step cells = 0

abbrev value_step : Value-F ℕ ℕ ℕ → ℕ
value_step Value-F.Nothing = 0
value_step (Value-F.Flag b) = 0
value_step (Value-F.Int n) = 0
value_step (Value-F.Fix x) = 0
value_step (Value-F.Text t) = 0
value_step (Value-F.Tup items) = 1 + greatest items
value_step (Value-F.Space segments) = 0
value_step (Value-F.Cells n) = 0
value_step (Value-F.Table t) = 0

abbrev pub nesting_of : Value → ℕ
nesting_of = fold-Value ℕ ℕ ℕ segment_step value_step cells_step
