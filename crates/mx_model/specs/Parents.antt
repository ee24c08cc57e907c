-- Where a space may stand.
use Rattle.std.specs.Prelude.{◌≡◌, ◌⊎◌, [], Option, Some, None}
use Rattle.mx_model.specs.Records.{Name, Path, ModelRecord}
use Rattle.mx_model.specs.Rings.{IsDefined}

-- a space stands at the top or below a defined one
abbrev pub HasParent : ModelRecord → Option (Path × Name) → Type 0
HasParent text None = ⊥
HasParent text (Some (parent, name)) = (parent ≡ []) ⊎ IsDefined text parent
