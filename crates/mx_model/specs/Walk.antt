-- The walk over the static paths: by the number of their names, and among as many names by the bytes of their texts. The
-- first path that meets a trouble decides.
use Rattle.std.specs.Prelude.{◌≡◌, ℕ, List, ◌<◌, ◌⊎◌, IsTrue, Option, Some, None, length, nat_lt, codes, if◌then◌else◌}
use Rattle.std.specs.Ordering.{nat_cmp}
use Rattle.std.specs.declared.cmp.Ordering.TheVariants.{Less}
use Rattle.std.specs.Cmp.Lexicographic.{slice_cmp}
use Rattle.mx_c3.specs.Lists.{Has, Distinct}
use Rattle.mx_print.specs.Texts.{separated}
use Rattle.mx_edit.specs.declared.refusal.EditRefusal.{EditRefusal}
use Rattle.mx_edit.specs.declared.refusal.EditRefusal.TheVariants as refusal
use Rattle.mx_edit.specs.declared.refusal.Limit.TheVariants as limit
use Rattle.mx_model.specs.Records.{Path, ModelRecord}
use Rattle.mx_model.specs.declared.layers.Layered.{Layered}
use Rattle.mx_model.specs.declared.layers.Layered.TheVariants.{Layers, NoOrder, NotStatic}
use Rattle.mx_model.specs.Layers.{layers, is_static}

-- a path's text: its names with a dot between each two
abbrev pub path_text : Path → List ℕ
path_text path = separated (codes ".") path

-- p stands before q in the walk
abbrev pub Before : Path → Path → Type 0
Before p q = (length p < length q) ⊎ ((length p ≡ length q) × (slice_cmp nat_cmp (path_text p) (path_text q) ≡ Less))

abbrev pub layers_trouble : Path → Layered → Option EditRefusal
layers_trouble path (Layers spaces) = if nat_lt 64 (length spaces) then Some (refusal.TooMany limit.Layers) else None
layers_trouble path NoOrder = Some (refusal.NoOrder path)
layers_trouble path NotStatic = None

-- what a static path meets by itself: more than 64 names, no order, more than 64 layers, in this order
abbrev pub own_trouble : ModelRecord → Path → Option EditRefusal
own_trouble text path =
    if nat_lt 64 (length path) then Some (refusal.TooMany limit.Depth) else layers_trouble path (layers text path)

-- so many static paths stand before this one
pub record HasBefore (text : ModelRecord) (path : Path) (count : ℕ) : Type 0 where
  pub paths : List Path
  pub many : length paths ≡ count
  pub distinct : Distinct paths
  pub static : (q : Path) → Has paths q → IsTrue (is_static text q)
  pub before : (q : Path) → Has paths q → Before q path

-- a static path meets this: what it meets by itself, or else that 20,000 stand before it
abbrev pub MeetsAt : ModelRecord → Path → EditRefusal → Type 0
MeetsAt text path trouble =
    (own_trouble text path ≡ Some trouble) ⊎ ((own_trouble text path ≡ None) × HasBefore text path 20000 × (trouble ≡ refusal.TooMany limit.Paths))

-- the walk meets this: a static path does, and none before it meets anything
pub record Meets (text : ModelRecord) (trouble : EditRefusal) : Type 0 where
  pub path : Path
  pub static : IsTrue (is_static text path)
  pub meets : MeetsAt text path trouble
  pub first : (q : Path) (other : EditRefusal) → IsTrue (is_static text q) → Before q path → MeetsAt text q other → ⊥

-- the walk meets nothing
abbrev pub MeetsNothing : ModelRecord → Type 0
MeetsNothing text = (path : Path) (trouble : EditRefusal) → IsTrue (is_static text path) → MeetsAt text path trouble → ⊥
