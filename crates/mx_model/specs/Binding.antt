-- What a path binds a name to: what the first of its layers has of that name.
use Rattle.std.specs.Prelude.{List, [], ◌∷◌, ◌++◌, Option, Some, None, option_and_then, is_some, if◌then◌else◌}
use Rattle.std.specs.Option.{option_or}
use Rattle.std.specs.Map.{lookup}
use Rattle.mx_value.specs.Name.{same_name}
use Rattle.mx_c3.specs.declared.space.SpaceId.{SpaceId}
use Rattle.mx_syntax.specs.declared.stmt.Params.{Params}
use Rattle.mx_edit.specs.declared.reference.RefValue.{RefValue}
use Rattle.mx_model.specs.Records.{Name, Path, CellsRecord, SpaceRecord, ModelRecord}
use Rattle.mx_model.specs.declared.layers.Layered.{Layered}
use Rattle.mx_model.specs.declared.layers.Layered.TheVariants.{Layers, NoOrder, NotStatic}
use Rattle.mx_model.specs.Layers.{id_of, space_of, layers}

-- a member of a space: cells, a reference with the path of the space that defines it, or a child
pub data Member : Type 0 where
  Cells : CellsRecord → Member
  Reference : RefValue → Path → Member
  Child : Member

abbrev pub own_child : ModelRecord → Path → Name → Option Member
own_child text path name = if is_some (id_of text (path ++ name ∷ [])) then Some Child else None

abbrev pub or_child : Option Member → Path → Option RefValue → Option Member
or_child child path (Some value) = Some (Reference value path)
or_child child path None = child

abbrev pub or_other : Option Member → Option CellsRecord → Option Member
or_other other (Some cells) = Some (Cells cells)
or_other other None = other

-- what a defined space has itself of a name; a valid text has at most one of the three
abbrev pub own_member : ModelRecord → Name → SpaceRecord → Option Member
own_member text name s =
    or_other (or_child (own_child text s.path name) s.path (lookup (same_name name) s.references)) (lookup (same_name name) s.cells)

-- what the first of these spaces has that has any
abbrev pub first_with : {X : Type 0} → ModelRecord → (SpaceRecord → Option X) → List SpaceId → Option X
first_with text own [] = None
first_with text own (s ∷ spaces) = option_or (option_and_then own (space_of text s)) (first_with text own spaces)

abbrev pub in_layers : {X : Type 0} → ModelRecord → (SpaceRecord → Option X) → Layered → Option X
in_layers text own (Layers spaces) = first_with text own spaces
in_layers text own NoOrder = None
in_layers text own NotStatic = None

-- what a path binds a name to
abbrev pub binding : ModelRecord → Path → Name → Option Member
binding text path name = in_layers text (own_member text name) (layers text path)

-- the parameters of a path
abbrev pub parameters : ModelRecord → Path → Option Params
parameters text path = in_layers text (λ (s : SpaceRecord). s.params) (layers text path)
