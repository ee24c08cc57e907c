-- What may not pass its greatest number.
use Rattle.std.specs.Prelude.{ℕ, List, [], ◌∷◌, Option, Some, None, ◌+◌, length, map, sum, nat_lt, if◌then◌else◌}
use Rattle.mx_edit.specs.declared.refusal.Limit.{Limit}
use Rattle.mx_edit.specs.declared.refusal.Limit.TheVariants as limit
use Rattle.mx_model.specs.Records.{SpaceRecord, ModelRecord}

-- how many cells these spaces have in all
abbrev pub cell_total : List SpaceRecord → ℕ
cell_total spaces = sum (map (λ (s : SpaceRecord). length s.cells) spaces)

-- how many references they have in all
abbrev pub reference_total : List SpaceRecord → ℕ
reference_total spaces = sum (map (λ (s : SpaceRecord). length s.references) spaces)

abbrev pub count_of : ModelRecord → Limit → ℕ
count_of text limit.Spaces = length text.spaces
count_of text limit.Cells = cell_total text.spaces
count_of text limit.Refs = length text.globals + reference_total text.spaces
count_of text limit.Tables = length text.tables
count_of text limit.Inputs = length text.inputs
-- these are met by the walk
count_of text _ = 0

abbrev pub greatest_count : Limit → ℕ
greatest_count limit.Spaces = 4000
greatest_count limit.Cells = 10000
greatest_count limit.Refs = 20000
greatest_count limit.Tables = 100
greatest_count limit.Inputs = 1000000
greatest_count _ = 0

-- the first of these that passes its greatest number
abbrev pub first_over : ModelRecord → List Limit → Option Limit
first_over text [] = None
first_over text (l ∷ limits) = if nat_lt (greatest_count l) (count_of text l) then Some l else first_over text limits

abbrev pub over : ModelRecord → Option Limit
over text = first_over text (limit.Spaces ∷ limit.Cells ∷ limit.Refs ∷ limit.Tables ∷ limit.Inputs ∷ [])
