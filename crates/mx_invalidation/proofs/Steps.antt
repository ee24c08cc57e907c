-- What a loop over the keys or the held nodes has marked.
use Rattle.std.proofs.Common.{◌≡◌, ℕ, ◌+◌, Bool, List, Option, Some, None, refl, subst, arith, ◌⊎◌, inl, inr}
use Rattle.std.specs.Prelude.{◌↔◌, IsSome, IfSome}
use Rattle.std.specs.FinMap as map
use Rattle.mx_graph.specs.declared.ids.NodeId.{NodeId}
use Rattle.mx_graph.specs.Relation.{Entry}
use Rattle.mx_edit.specs.declared.key.Key.{Key}
use Rattle.mx_vertices.specs.declared.slot.Slot.{Slot}
use Rattle.mx_vertices.specs.Places.{at, IsPlacedIn}
use Rattle.mx_invalidation.specs.Marked.{IsMarkedBy, IsMarkedFrom}
use Rattle.mx_vertices.specs.Live.{AreLive}
use Rattle.mx_vertices.proofs.Places.{Nodes, same_or}

pub live_entry : (place : Slot → Option ℕ) (old now : Nodes) (slots : List Slot) (list : List (Option NodeId)) → IsPlacedIn place old slots list → (p : ℕ) → ((q : ℕ) → IsSome (map.get now q) ↔ IsSome (map.get old q)) → IfSome (at list p) (λ id. IsSome (map.get now id.at))
live_entry place old now slots list h p live = by (at list p) refl
  where
    by : (o : Option NodeId) → at list p ≡ o → IfSome o (λ id. IsSome (map.get now id.at))
    by None e = tt
    by (Some id) e = (live id.at).1 (h.told p id e).1

pub live_node : (old now : Nodes) (order : List (Option NodeId)) → AreLive old order → (p : ℕ) → ((q : ℕ) → IsSome (map.get now q) ↔ IsSome (map.get old q)) → IfSome (at order p) (λ id. IsSome (map.get now id.at))
live_node old now order h p live = by (at order p) refl
  where
    by : (o : Option NodeId) → at order p ≡ o → IfSome o (λ id. IsSome (map.get now id.at))
    by None e = tt
    by (Some id) e = (live id.at).1 (h p id e)

module _ (slots : List Slot) (changed : Key → Bool) (keys : List (Option NodeId)) (edges : List Entry) where
  pub from_none : (q : ℕ) → IsMarkedFrom slots changed keys edges 0 q → ⊥
  from_none q m = let b = m.below in omega arith

  pub from_more : (n q : ℕ) → IsMarkedFrom slots changed keys edges (n + 1) q → IsMarkedFrom slots changed keys edges n q ⊎ IsMarkedBy slots changed edges (at keys n) q
  from_more n q m =
      elim (same_or m.place n) [
        | inl e ↦ inr (subst (λ p. IsMarkedBy slots changed edges (at keys p) q) e m.by)
        | inr d ↦ inl (record { place = m.place; below = let b = m.below in omega (arith, d); by = m.by })
      ]

  pub from_less : (n q : ℕ) → IsMarkedFrom slots changed keys edges n q → IsMarkedFrom slots changed keys edges (n + 1) q
  from_less n q m = record { place = m.place; below = let b = m.below in omega arith; by = m.by }

  pub from_last : (n q : ℕ) → IsMarkedBy slots changed edges (at keys n) q → IsMarkedFrom slots changed keys edges (n + 1) q
  from_last n q b = record { place = n; below = omega arith; by = b }
