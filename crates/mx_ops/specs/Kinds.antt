-- What values hold, by their kinds.
use Rattle.std.specs.Prelude.{ℕ, List, Option, Some, None}
use Rattle.mx_value.specs.declared.value.Value.{Value, out-Value}
use Rattle.mx_value.specs.declared.value.Segment.{Segment}
use Rattle.mx_value.specs.declared.value.CellsAt.{CellsAt}
use Rattle.mx_value.specs.declared.value.Segment.TheOpen.{Value-F}

-- a value as its kind and what it holds
abbrev pub Content : Type 0
Content = Value-F Segment Value CellsAt

abbrev pub items_in : Content → Option (List Value)
items_in (Value-F.Tup items) = Some items
items_in content = None

-- the items of a tuple
abbrev pub items_of : Value → Option (List Value)
items_of v = items_in (out-Value v)

abbrev pub bytes_in : Content → Option (List ℕ)
bytes_in (Value-F.Text t) = Some t
bytes_in content = None

-- the bytes of a text
abbrev pub bytes_of : Value → Option (List ℕ)
bytes_of v = bytes_in (out-Value v)
