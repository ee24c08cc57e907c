-- Arguments as keys: a decimal number that is whole stands for the whole number, in tuples too.
use Rattle.std.specs.Prelude.{ℤ, pos, int_div, int_rem, if◌then◌else◌, map}
use Rattle.std.specs.Ordering.{int_eq}
use Rattle.mx_value.specs.declared.value.Value.{Value, para-Value}
use Rattle.mx_value.specs.declared.value.Segment.{Segment}
use Rattle.mx_value.specs.declared.value.CellsAt.{CellsAt}
use Rattle.mx_value.specs.declared.value.Segment.TheOpen.{Segment-F, Value-F, CellsAt-F}
use Rattle.mx_value.specs.declared.value.Value.TheVariants as made

-- the raw number of 1.0
abbrev pub one : ℤ
one = pos 1000000000

-- the whole number where a raw number is whole, else the decimal number
abbrev pub number_of : ℤ → Value
number_of raw = if int_eq (int_rem raw one) (pos 0) then made.Int (int_div raw one) else made.Fix raw

abbrev Nothing_more : Type 0
Nothing_more = Unit {0}

-- an address stays as it is
abbrev segment_step : Segment-F (Segment × Nothing_more) (Value × Value) (CellsAt × Nothing_more) → Nothing_more
segment_step segment = tt

abbrev cells_step : CellsAt-F (Segment × Nothing_more) (Value × Value) (CellsAt × Nothing_more) → Nothing_more
cells_step cells = tt

-- each part beside what has become of it
abbrev value_step : Value-F (Segment × Nothing_more) (Value × Value) (CellsAt × Nothing_more) → Value
value_step Value-F.Nothing = made.Nothing
value_step (Value-F.Flag b) = made.Flag b
value_step (Value-F.Int n) = made.Int n
value_step (Value-F.Fix x) = number_of x
value_step (Value-F.Text t) = made.Text t
value_step (Value-F.Tup items) = made.Tup (map (λ item. item.1) items)
value_step (Value-F.Space segments) = made.Space (map (λ segment. segment.0) segments)
value_step (Value-F.Cells cells) = made.Cells cells.0
value_step (Value-F.Table t) = made.Table t

abbrev pub normal_of : Value → Value
normal_of = para-Value Nothing_more Value Nothing_more segment_step value_step cells_step
