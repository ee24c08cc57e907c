-- What is in the graph.
use Rattle.std.specs.Prelude.{◌≡◌, ℕ, List, Option, Some, Bool, IsSome}
use Rattle.std.specs.Ordering.{nat_cmp}
use Rattle.std.specs.FinMap as map
use Rattle.mx_graph.specs.declared.ids.NodeId.{NodeId}
use Rattle.mx_vertices.specs.declared.slot.Slot.{Slot}
use Rattle.mx_vertices.specs.declared.slot.Watched.{Watched}
use Rattle.mx_vertices.specs.declared.slot.Slot.TheVariants.{Watch}
use Rattle.mx_vertices.specs.Places.{slot_at, at}

-- each is in the graph
abbrev pub AreLive : map.FinMap nat_cmp Bool → List (Option NodeId) → Type 0
AreLive graph list = (p : ℕ) (id : NodeId) → at list p ≡ Some id → IsSome (map.get graph id.at)

-- each key is in the graph
abbrev pub AreKeysLive : map.FinMap nat_cmp Bool → List Slot → Type 0
AreKeysLive graph slots = (q : ℕ) (w : Watched) → slot_at slots q ≡ Watch w → IsSome (map.get graph q)
