-- Stamps: where held nodes stand in the order of holding.
use Rattle.std.specs.Prelude.{◌≡◌, ℕ, ◌+◌, ◌<◌, ◌≤◌, List, [], ◌∷◌, Option, Some}
use Rattle.mx_graph.specs.declared.ids.NodeId.{NodeId}
use Rattle.mx_vertices.specs.Places.{at, Has}
use Rattle.mx_vertices.specs.Kept.{Kept}

-- nothing stands from this place on
abbrev pub NoneFrom : List (Option NodeId) → ℕ → Type 0
NoneFrom order from = (p : ℕ) (id : NodeId) → from ≤ p → at order p ≡ Some id → ⊥

-- it is the first that stands from this place on
pub record IsFirstFrom (order : List (Option NodeId)) (from : ℕ) (id : NodeId) : Type 0 where
  pub place : ℕ
  pub above : from ≤ place
  pub there : at order place ≡ Some id
  pub least : (p : ℕ) (j : NodeId) → from ≤ p → at order p ≡ Some j → place ≤ p

-- no node is held with a stamp above this one
abbrev pub NoneAfter : List Kept → ℕ → Type 0
NoneAfter held stamp = (r : Kept) → Has held r → stamp < r.stamp → ⊥

-- the node of this id is held with the least stamp above this one
pub record IsNextAfter (held : List Kept) (stamp id : ℕ) : Type 0 where
  pub entry : Kept
  pub among : Has held entry
  pub id_is : entry.id ≡ id
  pub later : stamp < entry.stamp
  pub least : (r : Kept) → Has held r → stamp < r.stamp → entry.stamp ≤ r.stamp

-- a node of this id is held, with this stamp
pub record IsHeldSince (held : List Kept) (id stamp : ℕ) : Type 0 where
  pub entry : Kept
  pub among : Has held entry
  pub id_is : entry.id ≡ id
  pub stamp_is : entry.stamp ≡ stamp

-- the held nodes with the stamps above p, without a gap
abbrev pub renumbered : ℕ → List Kept → List Kept
renumbered p [] = []
renumbered p (r ∷ rs) = record r { stamp = p + 1 } ∷ renumbered (p + 1) rs
