-- How two values stand to each other: which is less, or that they are equal.
use Rattle.std.specs.Prelude.{ℕ, Bool, true, false, if◌then◌else◌, List, [], ◌∷◌, map, Option, Some, None}
use Rattle.std.specs.declared.cmp.Ordering.{Ordering}
use Rattle.std.specs.declared.cmp.Ordering.TheVariants.{Less, Equal, Greater}
use Rattle.std.specs.Ordering.{int_cmp, nat_cmp, is_lt, is_le, is_gt, is_ge}
use Rattle.std.specs.Cmp.Lexicographic.{slice_cmp}
use Rattle.mx_value.specs.Equality.{value_eq}
use Rattle.mx_value.specs.declared.value.Value.{Value, out-Value, para-Value}
use Rattle.mx_value.specs.declared.value.Value.TheVariants as value
use Rattle.mx_value.specs.declared.value.Segment.{Segment}
use Rattle.mx_value.specs.declared.value.CellsAt.{CellsAt}
use Rattle.mx_value.specs.declared.value.Segment.TheOpen.{Segment-F, Value-F, CellsAt-F}
use Rattle.mx_ops.specs.declared.number.Number.{Number}
use Rattle.mx_ops.specs.declared.order.Comparison.{Comparison}
use Rattle.mx_ops.specs.declared.order.Comparison.TheVariants as comparison
use Rattle.mx_ops.specs.Kinds.{Content, items_of, bytes_of}
use Rattle.mx_ops.specs.Numbers.{number_of, scaled}

-- An order, `Equal` of equal values, or none of values that are unequal and neither of which is less.
abbrev pub Standing : Type 0
Standing = Option Ordering

abbrev pub number_order : Number → Number → Ordering
number_order x y = int_cmp (scaled x) (scaled y)

-- numbers stand by their values
abbrev pub numbers_or : Option Number → Option Number → Standing → Standing
numbers_or (Some x) (Some y) other = Some (number_order x y)
numbers_or x y other = other

-- texts stand by their bytes
abbrev pub texts_or : Option (List ℕ) → Option (List ℕ) → Standing → Standing
texts_or (Some s) (Some t) other = Some (slice_cmp nat_cmp s t)
texts_or s t other = other

-- other values are equal where they are alike
abbrev pub alike : Value → Value → Standing
alike a b = if value_eq a b then Some Equal else None

abbrev pub plain_order : Value → Value → Standing
plain_order a b = numbers_or (number_of a) (number_of b) (texts_or (bytes_of a) (bytes_of b) (alike a b))

abbrev pub unless_equal : Standing → Standing → Standing
unless_equal (Some Equal) rest = rest
unless_equal standing rest = standing

-- tuples stand by their first unequal items, and then by their lengths
abbrev pub in_turn : List (Value → Standing) → List Value → Standing
in_turn [] [] = Some Equal
in_turn [] (y ∷ ys) = Some Less
in_turn (x ∷ xs) [] = Some Greater
in_turn (x ∷ xs) (y ∷ ys) = unless_equal (x y) (in_turn xs ys)

abbrev pub tuple_order : List (Value → Standing) → Option (List Value) → Standing
tuple_order xs (Some ys) = in_turn xs ys
tuple_order xs None = None

abbrev Nothing_more : Type 0
Nothing_more = Unit {0}

abbrev Parts : Type 0
Parts = Value-F (Segment × Nothing_more) (Value × (Value → Standing)) (CellsAt × Nothing_more)

abbrev segment_step : Segment-F (Segment × Nothing_more) (Value × (Value → Standing)) (CellsAt × Nothing_more) → Nothing_more
segment_step segment = tt

abbrev cells_step : CellsAt-F (Segment × Nothing_more) (Value × (Value → Standing)) (CellsAt × Nothing_more) → Nothing_more
cells_step cells = tt

abbrev value_step : Parts → Value → Standing
value_step Value-F.Nothing = plain_order value.Nothing
value_step (Value-F.Flag b) = plain_order (value.Flag b)
value_step (Value-F.Int n) = plain_order (value.Int n)
value_step (Value-F.Fix x) = plain_order (value.Fix x)
value_step (Value-F.Text t) = plain_order (value.Text t)
value_step (Value-F.Tup items) = λ b. tuple_order (map (λ item. item.1) items) (items_of b)
value_step (Value-F.Space segments) = plain_order (value.Space (map (λ segment. segment.0) segments))
value_step (Value-F.Cells cells) = plain_order (value.Cells cells.0)
value_step (Value-F.Table t) = plain_order (value.Table t)

abbrev pub order : Value → Value → Standing
order = para-Value Nothing_more (Value → Standing) Nothing_more segment_step value_step cells_step

-- what `==` says of two values
abbrev pub is_equal : Standing → Bool
is_equal (Some Equal) = true
is_equal standing = false

abbrev pub equal : Value → Value → Bool
equal a b = is_equal (order a b)

-- numbers, texts and tuples have an order
abbrev pub has_order : Content → Bool
has_order Value-F.Nothing = false
has_order (Value-F.Flag b) = true
has_order (Value-F.Int n) = true
has_order (Value-F.Fix x) = true
has_order (Value-F.Text t) = true
has_order (Value-F.Tup items) = true
has_order (Value-F.Space at) = false
has_order (Value-F.Cells at) = false
has_order (Value-F.Table t) = false

-- the order that `<` goes by, where there is one
abbrev pub ordering : Value → Value → Standing
ordering a b = if has_order (out-Value a) then order a b else None

-- what is asked of an order
abbrev pub test_of : Comparison → Ordering → Bool
test_of comparison.Lt = is_lt
test_of comparison.Le = is_le
test_of comparison.Gt = is_gt
test_of comparison.Ge = is_ge
