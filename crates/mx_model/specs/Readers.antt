-- What a defined space has itself, by its place.
use Rattle.std.specs.Prelude.{ℕ, Bool, false, List, Option, Some, None, option_map, option_and_then, slice_get}
use Rattle.std.specs.Map.{lookup}
use Rattle.mx_value.specs.Name.{same_name}
use Rattle.mx_c3.specs.declared.space.SpaceId.{SpaceId}
use Rattle.mx_syntax.specs.declared.stmt.Formula.{Formula}
use Rattle.mx_syntax.specs.declared.stmt.Params.{Params}
use Rattle.mx_edit.specs.declared.reference.RefValue.{RefValue}
use Rattle.mx_model.specs.Records.{Name, Path, CellsRecord, SpaceRecord, ModelRecord}
use Rattle.mx_model.specs.Layers.{space_of}

abbrev pub path_in : ModelRecord → SpaceId → Option Path
path_in text s = option_map (λ (space : SpaceRecord). space.path) (space_of text s)

-- the cells, the reference and the parameters of a space
abbrev pub cells_of : SpaceRecord → Name → Option CellsRecord
cells_of space name = lookup (same_name name) space.cells

abbrev pub cells_in : ModelRecord → SpaceId → Name → Option CellsRecord
cells_in text s name = option_and_then (λ (space : SpaceRecord). cells_of space name) (space_of text s)

abbrev pub formula_in : ModelRecord → SpaceId → Name → Option Formula
formula_in text s name = option_and_then (λ (space : SpaceRecord). option_map (λ (c : CellsRecord). c.formula) (cells_of space name)) (space_of text s)

abbrev pub or_false : Option CellsRecord → Bool
or_false (Some cells) = cells.allow_none
or_false None = false

-- the setting of cells, which is false where there are none
abbrev pub allows_in : ModelRecord → SpaceId → Name → Bool
allows_in text s name = or_false (option_and_then (λ (space : SpaceRecord). cells_of space name) (space_of text s))

abbrev pub reference_in : ModelRecord → SpaceId → Name → Option RefValue
reference_in text s name = option_and_then (λ (space : SpaceRecord). lookup (same_name name) space.references) (space_of text s)

abbrev pub params_in : ModelRecord → SpaceId → Option Params
params_in text s = option_and_then (λ (space : SpaceRecord). space.params) (space_of text s)

-- by place, from 0
abbrev pub name_at : {X : Type 0} → List (Name × X) → ℕ → Option Name
name_at members place = option_map (λ m. m.0) (slice_get members place)

abbrev pub cells_at : ModelRecord → SpaceId → ℕ → Option Name
cells_at text s place = option_and_then (λ (space : SpaceRecord). name_at space.cells place) (space_of text s)

abbrev pub reference_at : ModelRecord → SpaceId → ℕ → Option Name
reference_at text s place = option_and_then (λ (space : SpaceRecord). name_at space.references place) (space_of text s)
