-- What the readers of a world lend, as the results of keys.
use Rattle.std.specs.Prelude.{◌≡◌, Option, Some, None}
use Rattle.mx_edit.specs.declared.reference.RefValue.{RefValue}
use Rattle.mx_edit.specs.declared.key.KeyResult.{KeyResult}
use Rattle.mx_edit.specs.declared.key.KeyResult.TheVariants as found
use Rattle.mx_model.specs.Records.{Path}
use Rattle.mx_world.specs.declared.bound.BoundCells.{BoundCells}
use Rattle.mx_world.specs.declared.bound.BoundReference.{BoundReference}
use Rattle.mx_world.specs.declared.bound.Bound.{Bound}
use Rattle.mx_world.specs.declared.bound.Bound.TheVariants as bound

-- what a name is bound to
abbrev pub told_name : Bound → KeyResult
told_name bound.CellsHere = found.CellsHere
told_name bound.Child = found.Child
told_name (bound.Ref reference) = found.Ref reference.value.now reference.owner.now
told_name bound.Missing = found.Missing

-- the cells of a name
abbrev pub told_cells : Option BoundCells → KeyResult
told_cells (Some cells) = found.Formula cells.formula.now cells.allow_none
told_cells None = found.Missing

-- a result is that of a reference
abbrev pub IsReference : KeyResult → RefValue → Path → Type 0
IsReference result value owner = result ≡ found.Ref value owner

-- a reference with its owner, exactly where the result is one
abbrev pub TellsReference : KeyResult → Option BoundReference → Type 0
TellsReference result (Some reference) = IsReference result reference.value.now reference.owner.now
TellsReference result None = (value : RefValue) (owner : Path) → IsReference result value owner → ⊥
