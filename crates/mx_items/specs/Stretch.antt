-- How far the way along an address has come.
use Rattle.std.specs.Prelude.{◌≡◌, ℕ, List, ◌++◌, map, Option, Some, None}
use Rattle.mx_value.specs.declared.value.Segment.TheVariants.{Name}
use Rattle.mx_value.specs.declared.namespace.Namespace.{Namespace}
use Rattle.mx_items.specs.declared.refusal.ItemsRefusal.{ItemsRefusal}
use Rattle.mx_items.specs.declared.refusal.ItemsRefusal.TheVariants.{NotHeld, NoMemory}
use Rattle.mx_items.specs.declared.way.Stretch.{Stretch}
use Rattle.mx_items.specs.Way.{above_all}

-- the names lead on from the namespace
abbrev pub below : Namespace → List (List ℕ) → Namespace
below n names = record { at = n.at ++ map Name names; source = n.source ++ names; overlay = n.overlay }

abbrev pub space_or_top : Option Namespace → Namespace
space_or_top None = above_all
space_or_top (Some n) = n

-- the namespace that the way has come to
abbrev pub here : Stretch → Namespace
here s = below (space_or_top s.space) s.names.items

-- the way stops here, behind so many segments
abbrev pub DoesStop : Option Namespace → ℕ → ItemsRefusal → Type 0
DoesStop led place (NotHeld k) = (k ≡ place) × (led ≡ None)
DoesStop led place NoMemory = Unit {0}
