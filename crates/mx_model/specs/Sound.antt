-- What the layers of a text are computed from, and what holds of all layers.
use Rattle.std.specs.Prelude.{◌≡◌, List, length, Option, Some, None, Result, Err}
use Rattle.std.specs.List.{filter_map}
use Rattle.mx_c3.specs.declared.refusal.C3Refusal.{C3Refusal}
use Rattle.mx_c3.specs.declared.refusal.C3Refusal.TheVariants as refusal
use Rattle.mx_c3.specs.declared.space.SpaceId.{SpaceId}
use Rattle.mx_c3.specs.InOrder.{AllBelow}
use Rattle.mx_c3.specs.Linearisation.{AreSound}
use Rattle.mx_c3.specs.Lists.{Has, Distinct}
use Rattle.mx_model.specs.Records.{Name, Path, SpaceRecord, ModelRecord}
use Rattle.mx_model.specs.declared.layers.Layered.{Layered}
use Rattle.mx_model.specs.declared.layers.Layered.TheVariants.{Layers, NoOrder, NotStatic}
use Rattle.mx_model.specs.Layers.{paths_of, base_lists, child_of, layers}
use Rattle.mx_model.specs.Rings.{HasNoRing}
use Rattle.mx_model.specs.Valid.{Valid}

-- the bases can be linearised, and no path stands twice
pub record IsSound (text : ModelRecord) : Type 0 where
  pub bases : AreSound (base_lists text)
  pub paths : Distinct (paths_of text)

-- distinct spaces of the text
abbrev pub AreSpaces : ModelRecord → List SpaceId → Type 0
AreSpaces text spaces = Distinct spaces × AllBelow (length text.spaces) spaces

-- layers are distinct spaces of the text
abbrev pub HasSpaces : ModelRecord → Layered → Type 0
HasSpaces text (Layers spaces) = AreSpaces text spaces
HasSpaces text NoOrder = Unit {0}
HasSpaces text NotStatic = Unit {0}

-- ---- laws

abbrev pub ValidIsSound : Type 0
ValidIsSound = (text : ModelRecord) → Valid text → IsSound text

-- so is any text in which no path stands twice, no space has a base twice, and there is no ring
abbrev pub RinglessIsSound : Type 0
RinglessIsSound =
    (text : ModelRecord) → Distinct (paths_of text)
    → ((s : SpaceRecord) → Has text.spaces s → Distinct s.bases) → HasNoRing text → IsSound text

-- spaces that are distinct have distinct children of a name
abbrev pub ChildrenAreDistinct : Type 0
ChildrenAreDistinct = (text : ModelRecord) (name : Name) (spaces : List SpaceId) → IsSound text → AreSpaces text spaces → AreSpaces text (filter_map (child_of text name) spaces)

abbrev pub LayersAreSpaces : Type 0
LayersAreSpaces = (text : ModelRecord) (path : Path) → IsSound text → HasSpaces text (layers text path)

-- in a valid text no path lacks an order
abbrev pub ValidHasOrders : Type 0
ValidHasOrders = (text : ModelRecord) (path : Path) → Valid text → layers text path ≡ NoOrder → ⊥

-- ---- answers

-- why spaces have no orders; only want of memory is free
abbrev pub IsBlockedBy : C3Refusal → Result (List (List SpaceId)) (List SpaceId) → Type 0
IsBlockedBy (refusal.NoOrder blocked) orders = orders ≡ Err blocked
IsBlockedBy refusal.NoMemory orders = Unit {0}

-- the layers of a path that has an order, if it is there
abbrev pub IsFound : Option (List SpaceId) → Layered → Type 0
IsFound (Some spaces) reached = reached ≡ Layers spaces
IsFound None reached = reached ≡ NotStatic
