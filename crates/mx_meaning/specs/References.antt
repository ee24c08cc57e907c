-- What a reference's value is in the namespace where it was looked up.
use Rattle.std.specs.Prelude.{Bool, true, false, if◌then◌else◌, List, [], ◌∷◌, ◌++◌, map, Option, Some, None}
use Rattle.mx_value.specs.Name.{same_name}
use Rattle.mx_value.specs.declared.label.Label.{Label}
use Rattle.mx_value.specs.declared.value.Value.{Value}
use Rattle.mx_value.specs.declared.value.Value.TheVariants as value
use Rattle.mx_value.specs.declared.value.Segment.{Segment}
use Rattle.mx_value.specs.declared.value.Segment.TheVariants as segment
use Rattle.mx_value.specs.declared.value.CellsAt.{roll-CellsAt}
use Rattle.mx_value.specs.declared.namespace.Namespace.{Namespace}
use Rattle.mx_value.specs.declared.fault.FaultKind.TheVariants.{NoName, TooLarge}
use Rattle.mx_edit.specs.declared.reference.RefValue.{RefValue}
use Rattle.mx_edit.specs.declared.reference.RefValue.TheVariants as reference
use Rattle.mx_edit.specs.declared.key.Key.TheVariants as key
use Rattle.mx_edit.specs.declared.key.KeyResult.{KeyResult}
use Rattle.mx_edit.specs.declared.key.KeyResult.TheVariants as found
use Rattle.mx_runs.specs.Runs.{Run, Looks}
use Rattle.mx_meaning.specs.Namespaces.{is_short}
use Rattle.mx_meaning.specs.Environments.{Env, Reading, fault}

-- the space at an address, which may have 64 segments
abbrev pub space_read : List Segment → Reading
space_read at env go = if is_short at then go (value.Space at) else fault TooLarge env

-- the cells of a name in the space at an address
abbrev pub cells_value : List Segment → Label → Value
cells_value at name = value.Cells (roll-CellsAt (record { space = at; name = name }))

-- What a target stands for: its address, and the path that is tested for it. An item's address is tested by its source.
pub record Target : Type 0 where
  pub at : List Segment
  pub path : List Label

-- the names of a path behind those of another that it begins with
abbrev pub behind : List Label → List Label → Option (List Label)
behind [] path = Some path
behind (n ∷ ns) [] = None
behind (n ∷ ns) (name ∷ path) = if same_name n name then behind ns path else None

-- The names of a target behind the path of the space that defines the reference, where it is relative: not fixed, a
-- space's, and with a path that begins with the space's.
abbrev pub relative : List Label → Bool → List Label → Option (List Label)
relative owner true path = None
relative [] false path = None
relative (n ∷ ns) false path = behind (n ∷ ns) path

-- an address with more names
abbrev pub names_added : List Segment → List Label → List Segment
names_added at names = at ++ map segment.Name names

-- a relative target lies in the space where the look-up was made, any other where it was written
abbrev pub target_of : Namespace → List Label → Option (List Label) → Target
target_of ns path (Some rest) = record { at = names_added ns.at rest; path = ns.source ++ rest }
target_of ns path None = record { at = names_added [] path; path = path }

-- all but the last
abbrev pub parent_of : {X : Type 0} → List X → List X
parent_of [] = []
parent_of (x ∷ []) = []
parent_of (x ∷ xs) = x ∷ parent_of xs

-- the last name of a path of two names or more
abbrev pub member_of : List Label → Option Label
member_of [] = None
member_of (n ∷ []) = None
member_of (n ∷ m ∷ []) = Some m
member_of (n ∷ m ∷ ns) = member_of (m ∷ ns)

-- the cells of a name in the space at an address, which may have 64 segments
abbrev pub cells_read : List Segment → Label → Reading
cells_read at name env go = if is_short at then go (cells_value at name) else fault TooLarge env

-- where the name is bound to cells, those of the space at the address without its last segment
abbrev pub member_found : Target → Label → Env → (Value → Run) → KeyResult → Run
member_found target name env go found.CellsHere = cells_read (parent_of target.at) name env go
member_found target name env go other = fault NoName env

-- cells, where the last of two names or more is bound to such
abbrev pub member_read : Target → Option Label → Reading
member_read target (Some name) env go = Looks (key.Name (parent_of target.path) name) (member_found target name env go)
member_read target None env go = fault NoName env

-- by what is at the path: the space, or what its last name stands for
abbrev pub target_found : Target → Env → (Value → Run) → KeyResult → Run
target_found target env go found.There = space_read target.at env go
target_found target env go other = member_read target (member_of target.path) env go

-- A target is the space of its path where that is there, or else the cells that its last name is bound to.
abbrev pub target_read : Target → Reading
target_read target env go = Looks (key.Exists target.path) (target_found target env go)

-- A reference that the space of a path defines, found in a namespace: a plain value, a table or a target. A reference of
-- the model has the empty path as its owner.
abbrev pub reference_read : RefValue → List Label → Namespace → Reading
reference_read (reference.Plain v) owner ns env go = go v
reference_read (reference.Table name) owner ns env go = go (value.Table name)
reference_read (reference.Target path fixed) owner ns env go = target_read (target_of ns path (relative owner fixed path)) env go
