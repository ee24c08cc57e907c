-- The texts of values and nodes.
use Rattle.std.specs.Prelude.{ℕ, zero, suc, ◌+◌, ◌/◌, ◌%◌, ◌^◌, ◌==◌, ◌||◌, ◌&&◌, nat_lt, List, [], ◌∷◌, ◌++◌, map, if◌then◌else◌, codes, ℤ, unsigned_abs}
use Rattle.std.specs.List.{concat}
use Rattle.std.specs.Int.{is_negative}
use Rattle.std.specs.Fmt.{decimal, signed_decimal}
use Rattle.mx_value.specs.declared.value.Value.{Value, fold-Value}
use Rattle.mx_value.specs.declared.value.Segment.{Segment, fold-Segment}
use Rattle.mx_value.specs.declared.value.CellsAt.{CellsAt, fold-CellsAt}
use Rattle.mx_value.specs.declared.value.Segment.TheOpen.{Segment-F, Value-F, CellsAt-F}
use Rattle.mx_value.specs.declared.node.Node.{Node}
use Rattle.mx_value.specs.declared.node.Node.TheVariants as node
use Rattle.mx_print.specs.Texts.{Text, commas}

-- the digits of a number, as many as are asked, with zeros in front
unfoldable pub padded : ℕ → ℕ → Text
padded zero n = []
padded (suc k) n = padded k (n / 10) ++ (48 + n % 10) ∷ []

-- so many decimals, without the zeros at their end, but the first decimal stays
unfoldable pub decimals : ℕ → ℕ → Text
decimals zero n = []
decimals (suc k) n = if nat_lt 0 k && (n % 10 == 0) then decimals k (n / 10) else padded (suc k) n

-- a decimal number, given in units of 10^-9
abbrev pub fixed_text : ℤ → Text
fixed_text z = (if is_negative z then codes "-" else []) ++ (decimal (unsigned_abs z / 10 ^ 9) ++ (codes "." ++ decimals 9 (unsigned_abs z % 10 ^ 9)))

-- a byte of a text, with a backslash in front where it is a quote or a backslash
abbrev pub escaped : ℕ → Text
escaped b = if (b == 34) || (b == 92) then 92 ∷ b ∷ [] else b ∷ []

abbrev pub quoted : Text → Text
quoted t = codes "\"" ++ (concat (map escaped t) ++ codes "\"")

-- a tuple of one item has a comma behind it
abbrev pub tuple_text : List Text → Text
tuple_text (t ∷ []) = codes "(" ++ (t ++ codes ",)")
tuple_text ts = codes "(" ++ (commas ts ++ codes ")")

abbrev pub after_dot : Text → Text
after_dot [] = []
after_dot (b ∷ bs) = if b == 46 then bs else b ∷ bs

-- an address of these segments, of which each name has a dot in front, but for the first one
abbrev pub address_of : List Text → Text
address_of [] = []
address_of (t ∷ ts) = after_dot t ++ concat ts

abbrev pub segment_step : Segment-F Text Text Text → Text
segment_step (Segment-F.Name name) = codes "." ++ name
segment_step (Segment-F.Item items) = codes "[" ++ (commas items ++ codes "]")

abbrev pub cells_step : CellsAt-F Text Text Text → Text
cells_step cells = address_of cells.space ++ (codes "." ++ cells.name)

abbrev pub value_step : Value-F Text Text Text → Text
value_step Value-F.Nothing = codes "None"
value_step (Value-F.Flag b) = if b then codes "True" else codes "False"
value_step (Value-F.Int n) = signed_decimal n
value_step (Value-F.Fix x) = fixed_text x
value_step (Value-F.Text t) = quoted t
value_step (Value-F.Tup items) = tuple_text items
value_step (Value-F.Space segments) = codes "<space " ++ (address_of segments ++ codes ">")
value_step (Value-F.Cells cells) = codes "<cells " ++ (cells ++ codes ">")
value_step (Value-F.Table t) = codes "<table " ++ (t ++ codes ">")

abbrev pub value_text : Value → Text
value_text = fold-Value Text Text Text segment_step value_step cells_step

abbrev pub segment_text : Segment → Text
segment_text = fold-Segment Text Text Text segment_step value_step cells_step

abbrev pub cells_text : CellsAt → Text
cells_text = fold-CellsAt Text Text Text segment_step value_step cells_step

abbrev pub address_text : List Segment → Text
address_text at = address_of (map segment_text at)

-- a node: its address, its name behind a dot and its arguments; an item node has them in brackets
abbrev pub node_text : Node → Text
node_text (node.Cell at name arguments) = address_text at ++ (codes "." ++ (name ++ (codes "(" ++ (commas (map value_text arguments) ++ codes ")"))))
node_text (node.Item at arguments) = address_text at ++ (codes "[" ++ (commas (map value_text arguments) ++ codes "]"))
