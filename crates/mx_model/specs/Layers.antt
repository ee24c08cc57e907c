-- Which paths are static, and of which defined spaces a static path has the members.
use Rattle.std.specs.Prelude.{Bool, true, false, List, [], ◌∷◌, ◌++◌, map, Option, Some, None, Result, Ok, Err, position, slice_get, option_map, option_and_then}
use Rattle.std.specs.List.{filter_map}
use Rattle.mx_value.specs.Name.{same_path}
use Rattle.mx_c3.specs.declared.space.SpaceId.{SpaceId}
use Rattle.mx_c3.specs.Merge.{merge}
use Rattle.mx_c3.specs.Linearisation.{c3, each}
use Rattle.mx_model.specs.declared.layers.Layered.{Layered}
use Rattle.mx_model.specs.declared.layers.Layered.TheVariants.{Layers, NoOrder, NotStatic}
use Rattle.mx_model.specs.Records.{Name, Path, SpaceRecord, ModelRecord}

-- ---- spaces by their place in order of creation

abbrev pub paths_of : ModelRecord → List Path
paths_of text = map (λ (s : SpaceRecord). s.path) text.spaces

abbrev pub id_in : List Path → Path → Option SpaceId
id_in paths path = option_map (λ n. record { 0 = n }) (position (same_path path) paths)

abbrev pub id_of : ModelRecord → Path → Option SpaceId
id_of text path = id_in (paths_of text) path

abbrev pub space_of : ModelRecord → SpaceId → Option SpaceRecord
space_of text s = slice_get text.spaces s.0

-- the bases of each space, by its place
abbrev pub lists_in : List Path → List SpaceRecord → List (List SpaceId)
lists_in paths spaces = map (λ (s : SpaceRecord). filter_map (id_in paths) s.bases) spaces

abbrev pub base_lists : ModelRecord → List (List SpaceId)
base_lists text = lists_in (paths_of text) text.spaces

-- the defined child of a space
abbrev pub child_of : ModelRecord → Name → SpaceId → Option SpaceId
child_of text name s = option_and_then (λ (space : SpaceRecord). id_of text (space.path ++ name ∷ [])) (space_of text s)

-- ---- layers

-- a static path has layers, or its bases have no order
abbrev pub layered : Result (List SpaceId) (List SpaceId) → Layered
layered (Ok order) = Layers order
layered (Err blocked) = NoOrder

-- the merge of the orders of these spaces and of their list
abbrev pub merge_orders : List SpaceId → Result (List (List SpaceId)) (List SpaceId) → Result (List SpaceId) (List SpaceId)
merge_orders spaces (Ok orders) = merge (orders ++ spaces ∷ [])
merge_orders spaces (Err blocked) = Err blocked

-- where a path has these defined children in the order of its layers: none makes no path
abbrev pub of_children : ModelRecord → List SpaceId → Layered
of_children text [] = NotStatic
of_children text (d ∷ ds) = layered (merge_orders (d ∷ ds) (each (c3 (base_lists text)) (d ∷ ds)))

-- one name further
abbrev pub below : ModelRecord → Layered → Name → Layered
below text (Layers spaces) name = of_children text (filter_map (child_of text name) spaces)
below text NoOrder name = NotStatic
below text NotStatic name = NotStatic

-- further by these names, from the left
abbrev pub further : ModelRecord → Layered → List Name → Layered
further text reached [] = reached
further text reached (name ∷ names) = further text (below text reached name) names

-- a space at the top has the layers of its linearisation
abbrev pub at_top : ModelRecord → Option SpaceId → Layered
at_top text (Some s) = layered (c3 (base_lists text) s)
at_top text None = NotStatic

abbrev pub layers : ModelRecord → Path → Layered
layers text [] = NotStatic
layers text (name ∷ names) = further text (at_top text (id_of text (name ∷ []))) names

abbrev pub is_there : Layered → Bool
is_there NotStatic = false
is_there _ = true

abbrev pub is_static : ModelRecord → Path → Bool
is_static text path = is_there (layers text path)
