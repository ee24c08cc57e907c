-- Values within the limits.
use Rattle.std.specs.Prelude.{◌≡◌, ◌≤◌, Bool, true, ◌&&◌, nat_le, List, [], ◌∷◌, Result, Ok, Err}
use Rattle.std.specs.List.{list_all}
use Rattle.mx_value.specs.Plain.{is_plain}
use Rattle.mx_value.specs.Size.{size_of}
use Rattle.mx_value.specs.Nesting.{nesting_of}
use Rattle.mx_value.specs.declared.value.Value.{Value, para-Value}
use Rattle.mx_value.specs.declared.value.Value.TheVariants.{Space}
use Rattle.mx_value.specs.declared.value.Segment.{Segment, out-Segment, para-Segment}
use Rattle.mx_value.specs.declared.value.CellsAt.{CellsAt, para-CellsAt}
use Rattle.mx_value.specs.declared.value.Segment.TheOpen.{Segment-F, Value-F, CellsAt-F}
use Rattle.mx_state.specs.Proper.{IsStep}

-- it holds of each
abbrev pub Each : {X : Type 0} → (X → Type 0) → List X → Type 0
Each P [] = Unit {0}
Each P (x ∷ xs) = P x × Each P xs

-- ---- the addresses in a value

-- a plain value within the limits on size and nesting
abbrev pub is_argument : Value → Bool
is_argument v = is_plain v && (nat_le (size_of v) 1_000_000 && nat_le (nesting_of v) 64)

-- each part beside what was found of it
abbrev pub segment_step : Segment-F (Segment × Bool) (Value × Bool) (CellsAt × Bool) → Bool
segment_step (Segment-F.Name name) = true
segment_step (Segment-F.Item items) = list_all (λ (item : Value × Bool). is_argument item.0) items

abbrev pub cells_step : CellsAt-F (Segment × Bool) (Value × Bool) (CellsAt × Bool) → Bool
cells_step cells = list_all (λ (segment : Segment × Bool). segment.1) cells.space

abbrev pub value_step : Value-F (Segment × Bool) (Value × Bool) (CellsAt × Bool) → Bool
value_step Value-F.Nothing = true
value_step (Value-F.Flag b) = true
value_step (Value-F.Int n) = true
value_step (Value-F.Fix x) = true
value_step (Value-F.Text t) = true
value_step (Value-F.Tup items) = list_all (λ (item : Value × Bool). item.1) items
value_step (Value-F.Space segments) = list_all (λ (segment : Segment × Bool). segment.1) segments
value_step (Value-F.Cells cells) = cells.1
value_step (Value-F.Table t) = true

-- the items of the addresses in a value are arguments
abbrev pub has_fit_addresses : Value → Bool
has_fit_addresses = para-Value Bool Bool Bool segment_step value_step cells_step

abbrev pub is_fit_segment : Segment → Bool
is_fit_segment = para-Segment Bool Bool Bool segment_step value_step cells_step

abbrev pub has_fit_address : CellsAt → Bool
has_fit_address = para-CellsAt Bool Bool Bool segment_step value_step cells_step

-- ---- limits

-- a value within the limits on size and nesting, in which the items of addresses are arguments
pub record IsWithin (v : Value) : Type 0 where
  pub small : size_of v ≤ 1_000_000
  pub flat : nesting_of v ≤ 64
  pub fit : has_fit_addresses v ≡ true

-- such is what an operator gives, where it gives a value
abbrev pub IsAnswerWithin : {E : Type 0} → Result Value E → Type 0
IsAnswerWithin (Ok v) = IsWithin v
IsAnswerWithin (Err why) = Unit {0}

-- The address of a space within the limits: the items in it are arguments, and as a value it is not too large.
pub record IsAddress (at : List Segment) : Type 0 where
  pub steps : Each (λ (s : Segment). IsStep (out-Segment s)) at
  pub small : size_of (Space at) ≤ 1_000_000
