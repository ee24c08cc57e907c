-- The defined children of a space, by name.
use Rattle.std.specs.Prelude.{◌≡◌, List, [], ◌∷◌, Option, Some, None, if◌then◌else◌, ◌⊎◌}
use Rattle.std.specs.List.{filter_map}
use Rattle.std.specs.Ordering.{nat_cmp}
use Rattle.std.specs.declared.cmp.Ordering.TheVariants.{Less}
use Rattle.std.specs.Cmp.Lexicographic.{slice_cmp}
use Rattle.mx_value.specs.Name.{same_name}
use Rattle.mx_c3.specs.Lists.{Has}
use Rattle.mx_c3.specs.declared.space.SpaceId.{SpaceId}
use Rattle.mx_model.specs.Records.{Name}
use Rattle.mx_paths.specs.declared.child.Child.{Child}

-- a name stands before another by its bytes
abbrev pub Precedes : Name → Name → Type 0
Precedes a b = slice_cmp nat_cmp a b ≡ Less

-- in the order of their names, each once
abbrev pub IsRising : List Child → Type 0
IsRising [] = Unit {0}
IsRising (c ∷ cs) = ((d : Child) → Has cs d → Precedes c.name d.name) × IsRising cs

-- the child of a name
abbrev pub named : Name → List Child → Option SpaceId
named name [] = None
named name (c ∷ cs) = if same_name name c.name then Some c.space else named name cs

-- the children of a name in these families, in their order
abbrev pub all_named : List (List Child) → Name → List SpaceId
all_named families name = filter_map (named name) families

-- ---- families that are gone through together

abbrev pub first : List Child → Option Child
first [] = None
first (c ∷ cs) = Some c

abbrev pub others : List Child → List Child
others [] = []
others (c ∷ cs) = cs

abbrev pub firsts : List (List Child) → List Child
firsts families = filter_map first families

-- the first child, where it has this name
abbrev pub first_named : Name → List Child → Option SpaceId
first_named name [] = None
first_named name (c ∷ cs) = if same_name name c.name then Some c.space else None

-- without that child
abbrev pub without_first : Name → List Child → List Child
without_first name [] = []
without_first name (c ∷ cs) = if same_name name c.name then cs else c ∷ cs

-- one of the children has the name, and no other name stands before it
pub record IsLeast (children : List Child) (name : Name) : Type 0 where
  pub child : Child
  pub among : Has children child
  pub is : child.name ≡ name
  pub least : (c : Child) → Has children c → (name ≡ c.name) ⊎ Precedes name c.name
