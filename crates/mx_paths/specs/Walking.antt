-- Where the walk over the static paths of a text stands.
use Rattle.std.specs.Prelude.{◌≡◌, ℕ, ◌+◌, map, ◌≤◌, ◌<◌, List, [], ◌∷◌, ◌++◌, IsTrue, length, take, Some, None, Result, Ok, Err, ◌⊎◌, slice_index_or}
use Rattle.mx_c3.specs.Lists.{Has, Among}
use Rattle.mx_c3.specs.declared.space.SpaceId.{SpaceId}
use Rattle.mx_model.specs.Records.{Name, Path, ModelRecord}
use Rattle.mx_model.specs.declared.layers.Layered.TheVariants.{Layers}
use Rattle.mx_model.specs.Layers.{id_of, child_of, base_lists, layers, is_static, of_children}
use Rattle.mx_model.specs.Sound.{IsSound, AreSpaces}
use Rattle.mx_paths.specs.Names.{IsNamed}
use Rattle.mx_model.specs.Walk.{Before, own_trouble, Meets}
use Rattle.mx_edit.specs.declared.refusal.EditRefusal.{EditRefusal}
use Rattle.mx_edit.specs.declared.refusal.EditRefusal.TheVariants as refusal
use Rattle.mx_edit.specs.declared.refusal.Limit.TheVariants as limit
use Rattle.mx_paths.specs.declared.refusal.PathsRefusal.{PathsRefusal}
use Rattle.mx_paths.specs.declared.refusal.PathsRefusal.TheVariants as refused
use Rattle.mx_paths.specs.declared.child.Child.{Child}
use Rattle.mx_paths.specs.Siblings.{IsRising, named, all_named}
use Rattle.mx_paths.specs.Orders.{Orders, AreOrders}
use Rattle.mx_paths.specs.Table.{Row, paths_in, IsInOrder}

-- the rows are the first static paths of the text, and none of them meets anything
pub record IsBegun (text : ModelRecord) (rows : List Row) : Type 0 where
  pub layered : (row : Row) → Has rows row → layers text row.0 ≡ Layers row.1
  pub fine : (row : Row) → Has rows row → own_trouble text row.0 ≡ None
  pub in_order : IsInOrder (paths_in rows)
  pub few : length rows ≤ 20000
  pub closed : (p q : Path) → IsTrue (is_static text p) → Has (paths_in rows) q → Before p q → Has (paths_in rows) p

-- the second is one name longer than one of these
pub record IsBelow (parents : List Path) (path : Path) : Type 0 where
  pub parent : Path
  pub name : Name
  pub has : Has parents parent
  pub is : path ≡ parent ++ name ∷ []

-- the rows have the static children of these paths, and no other paths
pub record IsWalked (text : ModelRecord) (rows : List Row) (done : List Path) : Type 0 where
  pub begun : IsBegun text rows
  pub children : (p : Path) (n : Name) → Has done p → IsTrue (is_static text (p ++ n ∷ [])) → Has (paths_in rows) (p ++ n ∷ [])
  pub below : (q : Path) → Has (paths_in rows) q → IsBelow done q

-- where static paths begin, or one of them
abbrev pub IsParent : ModelRecord → Path → Type 0
IsParent text path = (path ≡ []) ⊎ IsTrue (is_static text path)

-- of a path whose children come next, these are still to come: those of the names in the families, from the defined children
-- that these have of the name
pub record IsExpanding (text : ModelRecord) (rows : List Row) (done : List Path) (path : Path) (families : List (List Child)) : Type 0 where
  pub begun : IsBegun text rows
  pub children : (p : Path) (n : Name) → Has done p → IsTrue (is_static text (p ++ n ∷ [])) → Has (paths_in rows) (p ++ n ∷ [])
  pub below : (q : Path) → Has (paths_in rows) q → IsBelow (done ++ path ∷ []) q
  pub parent : IsParent text path
  pub before : (q : Path) → IsParent text q → Before q path → Has done q
  pub rising : (family : List Child) → Has families family → IsRising family
  pub behind : (c : Child) (q : Path) → Among families c → Has (paths_in rows) q → Before q (path ++ c.name ∷ [])
  pub spaces : (n : Name) → AreSpaces text (all_named families n)
  pub rest : (n : Name) → Has (paths_in rows) (path ++ n ∷ []) ⊎ (layers text (path ++ n ∷ []) ≡ of_children text (all_named families n))

-- a family has the defined children of a space
pub record IsFamily (text : ModelRecord) (s : SpaceId) (family : List Child) : Type 0 where
  pub rising : IsRising family
  pub has : (n : Name) → named n family ≡ child_of text n s

-- the spaces at the top
pub record IsTop (text : ModelRecord) (family : List Child) : Type 0 where
  pub rising : IsRising family
  pub has : (n : Name) → named n family ≡ id_of text (n ∷ [])

-- what the walk takes the children and their layers from: the families of the defined spaces and their orders
pub record AreFamilies (text : ModelRecord) (families : List (List Child)) : Type 0 where
  pub long : length families ≡ length text.spaces
  pub each : (s : SpaceId) → s.0 < length text.spaces → IsFamily text s (slice_index_or families s.0 [])

-- what the walk takes paths and layers from
pub record AreSources (text : ModelRecord) (top : List Child) (families : List (List Child)) (orders : Orders) : Type 0 where
  pub is_top : IsTop text top
  pub are_families : AreFamilies text families
  pub are_orders : AreOrders (base_lists text) orders (length text.spaces)

-- ---- answers of steps

-- a path stands behind the others with its layers
pub record IsAdded (text : ModelRecord) (path : Path) (old new : List Row) : Type 0 where
  pub spaces : List SpaceId
  pub is : new ≡ old ++ (path, spaces) ∷ []
  pub has : layers text path ≡ Layers spaces
  pub fine : own_trouble text path ≡ None
  pub room : length old < 20000

-- a static path meets this behind as many others
abbrev pub MeetsBehind : ModelRecord → Path → ℕ → EditRefusal → Type 0
MeetsBehind text path count why =
    (own_trouble text path ≡ Some why) ⊎ ((own_trouble text path ≡ None) × (count ≡ 20000) × (why ≡ refusal.TooMany limit.Paths))

-- a path is added, or meets something; only want of memory is free
abbrev pub Adds : ModelRecord → Path → List Row → List Row → Result (Unit {0}) PathsRefusal → Type 0
Adds text path old new (Ok done) = IsAdded text path old new
Adds text path old new (Err (refused.NoOrder p)) = MeetsBehind text path (length old) (refusal.NoOrder p)
Adds text path old new (Err (refused.TooMany l)) = MeetsBehind text path (length old) (refusal.TooMany l)
Adds text path old new (Err refused.NoMemory) = Unit {0}

-- the children of the paths at the first places, after the place where static paths begin, are there
abbrev pub IsWalkedTo : ModelRecord → List Row → ℕ → Type 0
IsWalkedTo text rows count = IsWalked text rows (take count ([] ∷ paths_in rows))

-- rows stand behind the others
pub record IsLonger (old new : List Row) : Type 0 where
  pub more : List Row
  pub is : new ≡ old ++ more

-- some children of a path are still to come
pub record IsOpen (text : ModelRecord) (rows : List Row) (path : Path) (families : List (List Child)) : Type 0 where
  pub done : List Path
  pub at : IsExpanding text rows done path families

-- one step leads from families to others
abbrev pub GoesOn : ModelRecord → Path → List Row → List (List Child) → List Row → List (List Child) → Type 0
GoesOn text path rows families new left = (done : List Path) → IsExpanding text rows done path families → IsExpanding text new done path left

-- the walk meets this; only want of memory is free
abbrev pub IsMet : ModelRecord → PathsRefusal → Type 0
IsMet text (refused.NoOrder p) = Meets text (refusal.NoOrder p)
IsMet text (refused.TooMany l) = Meets text (refusal.TooMany l)
IsMet text refused.NoMemory = Unit {0}

-- the children of a path are added behind the others, or the walk meets something
abbrev pub Closes : ModelRecord → List Path → Path → List Row → List Row → Result (Unit {0}) PathsRefusal → Type 0
Closes text done path old new (Ok u) = IsWalked text new (done ++ path ∷ []) × IsLonger old new
Closes text done path old new (Err why) = IsMet text why

-- so are those of the path at a place
abbrev pub Expands : ModelRecord → ℕ → List Row → List Row → Result (Unit {0}) PathsRefusal → Type 0
Expands text place old new (Ok u) = IsWalkedTo text new (place + 1) × IsLonger old new
Expands text place old new (Err why) = IsMet text why

-- what the walk needs of a text and of what it takes from it
pub record IsReady (text : ModelRecord) (top : List Child) (families : List (List Child)) (orders : Orders) : Type 0 where
  pub sound : IsSound text
  pub named : IsNamed text
  pub sources : AreSources text top families orders

-- the children of layers
abbrev pub families_in : List (List Child) → List SpaceId → List (List Child)
families_in families spaces = map (λ (s : SpaceId). slice_index_or families s.0 []) spaces
