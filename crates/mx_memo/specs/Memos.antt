-- The memo as contracts see it.
use Rattle.std.specs.Prelude.{◌≡◌, ℕ, ◌≤◌, List, [], ◌++◌, ◌∷◌, length}
use Rattle.std.specs.HashMap.{get as look_up}
use Rattle.mx_value.specs.Equality.{node_eq}
use Rattle.mx_value.specs.declared.node.Node.{Node}
use Rattle.mx_vertices.specs.Found.{IsIndexed, AreBegun, AreDistinct}
use Rattle.mx_graph.specs.declared.ids.NodeId.{NodeId}
use Rattle.mx_memo.specs.declared.memo.Memo.TheInside.{Inside}
use Rattle.mx_vertices.specs.Places.{held_in, Has}
use Rattle.mx_vertices.specs.Kept.{Kept, IsHeld, entries, IsWhole}

-- the held nodes in order of holding, the last stamp that was given, and the nodes whose runs have begun, in that order
pub record Memory : Type 0 where
  pub held : List Kept
  pub last : ℕ
  pub begun : List Node

abbrev pub memory_of : Inside → Memory
memory_of s = record { held = entries s.graph.edges s.slots.items 0 s.order.items; last = length s.order.items; begun = s.begun.items }

-- the most nodes that are held
abbrev pub most_held : ℕ
most_held = 4000000

-- what is true of the fields of every memo
pub record IsSound (s : Inside) : Type 0 where
  pub whole : IsWhole s.graph s.slots.items s.order.items s.keys.items
  pub found : IsIndexed s.table s.slots.items s.order.items
  pub begun : AreBegun (look_up node_eq s.table.nodes) s.begun.items
  pub begun_once : AreDistinct s.begun.items
  pub counted : s.count ≡ held_in s.order.items
  pub few : s.count ≤ most_held

abbrev pub nothing_held : Memory
nothing_held = record { held = []; last = 0; begun = [] }

-- each is held
abbrev pub AreHeld : List Kept → List NodeId → Type 0
AreHeld held ids = (id : NodeId) → Has ids id → IsHeld held id.at

-- the node is the last of these
pub record IsLast (ns : List Node) (n : Node) : Type 0 where
  pub before : List Node
  pub is : ns ≡ before ++ n ∷ []

-- one more is held, with the next stamp
abbrev pub HoldsLast : Memory → Memory → Kept → Type 0
HoldsLast old new k = new ≡ record { held = old.held ++ k ∷ []; last = k.stamp; begun = old.begun }
