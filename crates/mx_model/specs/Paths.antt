-- Paths: a parent and a last name, and the names of a path's defined children.
use Rattle.std.specs.Prelude.{Bool, List, [], ◌∷◌, Option, Some, None, is_some, option_and_then, if◌then◌else◌}
use Rattle.std.specs.List.{filter_map}
use Rattle.mx_value.specs.Name.{same_path}
use Rattle.mx_model.specs.Records.{Name, Path, SpaceRecord, ModelRecord}
use Rattle.mx_model.specs.Layers.{id_of, space_of}

abbrev pub prepended : Name → Option (Path × Name) → Option (Path × Name)
prepended first None = Some ([], first)
prepended first (Some (parent, last)) = Some (first ∷ parent, last)

-- the names but the last, and the last
abbrev pub split_last : Path → Option (Path × Name)
split_last [] = None
split_last (name ∷ names) = prepended name (split_last names)

abbrev pub is_defined : ModelRecord → Path → Bool
is_defined text path = is_some (id_of text path)

-- the defined space of a path
abbrev pub space_at : ModelRecord → Path → Option SpaceRecord
space_at text path = option_and_then (space_of text) (id_of text path)

abbrev pub name_below : Path → Option (Path × Name) → Option Name
name_below parent None = None
name_below parent (Some (path, last)) = if same_path path parent then Some last else None

-- the names of the defined children of a path, in order of creation; those of the empty path are the spaces at the top
abbrev pub child_names : ModelRecord → Path → List Name
child_names text parent = filter_map (λ (s : SpaceRecord). name_below parent (split_last s.path)) text.spaces
