-- What a marking from some vertices and a sweep leave.
use Rattle.std.proofs.Common.{◌≡◌, ◌∙◌, ℕ, ◌+◌, true, cond, List, ◌∷◌, Option, Some, None, refl, ap, map as map_list, ◌⊎◌}
use Rattle.std.specs.Prelude.{◌↔◌, IsSome, filter}
use Rattle.std.specs.FinMap as map
use Rattle.mx_graph.specs.declared.ids.NodeId.{NodeId}
use Rattle.mx_graph.specs.Relation.{Graph, IsRelation, is_kept, is_marked_in}
use Rattle.mx_vertices.specs.declared.slot.Slot.{Slot}
use Rattle.mx_vertices.specs.declared.slot.Watched.{Watched}
use Rattle.mx_vertices.specs.declared.slot.Slot.TheVariants.{Free, Watch}
use Rattle.mx_vertices.specs.Places.{slot_at, at, IsPlaced, if_live, Has}
use Rattle.mx_vertices.specs.Kept.{Kept, looked, sources_at, kept, entries, IsWhole, IsTouched, Here, ByAsk, Sifts, Done, Keeps, Drops}
use Rattle.mx_invalidation.proofs.Keeping.{IsDropped, sifted, left_whole}
use Rattle.mx_invalidation.proofs.Spreading.{Spreads, closed, touched_marked, marked_touched}

-- all that reaches the starts is marked, and all that is marked is swept away
pub record IsSwept (g marked left : Graph) (slots slots2 : List Slot) (order order2 : List (Option NodeId)) (Start : ℕ → Type 0) : Type 0 where
  pub live : (q : ℕ) → IsSome (map.get marked.nodes q) ↔ IsSome (map.get g.nodes q)
  pub edges_stay : marked.edges ≡ g.edges
  pub from : (q : ℕ) → (map.get marked.nodes q ≡ Some true) ↔ ((map.get g.nodes q ≡ Some true) ⊎ Spreads g.edges Start q)
  pub nodes : (q : ℕ) → map.get left.nodes q ≡ cond (is_marked_in marked.nodes q) None (map.get marked.nodes q)
  pub edges : left.edges ≡ filter (is_kept marked.nodes) marked.edges
  pub slots_are : (q : ℕ) → slot_at slots2 q ≡ cond (is_marked_in marked.nodes q) Free (slot_at slots q)
  pub order_is : order2 ≡ map_list (if_live left.nodes) order

module _ (g marked left : Graph) (slots slots2 : List Slot) (order order2 keys keys2 : List (Option NodeId)) (whole : IsWhole g slots order keys) (relation : IsRelation g) (Start : ℕ → Type 0) (s : IsSwept g marked left slots slots2 order order2 Start) where
  dropped : IsDropped g marked left slots slots2 order order2
  dropped = record {
    relation = relation;
    live = s.live;
    closed = closed g marked slots order keys whole relation Start s.from;
    nodes = s.nodes;
    edges = s.edges ∙ ap (filter (is_kept marked.nodes)) s.edges_stay;
    slots_are = s.slots_are;
    order_is = s.order_is;
  }

  pub swept_whole : IsPlaced left.nodes slots2 order2 keys2 → IsWhole left slots2 order2 keys2
  swept_whole placed = left_whole g marked left slots slots2 order order2 keys keys2 whole dropped placed

  pub swept_sifts : (passes : Kept → Type 0) → ((r : Kept) → Has (entries g.edges slots 0 order) r → passes r → Spreads g.edges Start r.id)
      → ((p : ℕ) (id : NodeId) → at order p ≡ Some id → Start id.at → (stamp : ℕ) → stamp ≡ p + 1 → passes (kept g.edges slots stamp id))
      → ((q : ℕ) (w : Watched) → slot_at slots q ≡ Watch w → Start q → (stamp : ℕ) (id : NodeId) → Has (entries g.edges slots 0 order) (kept g.edges slots stamp id) → Has (sources_at slots id.at g.edges) (looked w.key) → passes (kept g.edges slots stamp id))
      → Sifts (IsTouched passes (entries g.edges slots 0 order)) (entries g.edges slots 0 order) (entries left.edges slots2 0 order2)
  swept_sifts passes started here by_key =
      sifted g marked left slots slots2 order order2 keys keys2 whole dropped (IsTouched passes (entries g.edges slots 0 order))
      (marked_touched g marked slots order keys whole relation Start s.from passes started here by_key)
      (touched_marked g marked slots order keys whole relation Start s.from passes started here by_key)

never : (held : List Kept) (q : ℕ) → IsTouched (λ r. ⊥) held q → ⊥
never held q (Here r h c) = c
never held q (ByAsk r h m a t) = never held m t

all_left : (Out : ℕ → Type 0) (xs ys : List Kept) → ((q : ℕ) → Out q → ⊥) → Sifts Out xs ys → ys ≡ xs
all_left Out xs ys n Done = refl
all_left Out xs ys n (Keeps r rs ks o s) = ap (λ (ls : List Kept). r ∷ ls) (all_left Out rs ks n s)
all_left Out xs ys n (Drops r rs ks o s) = absurd (n r.id o)

-- where nothing passes, all is left
pub left_all : (held left : List Kept) → Sifts (IsTouched (λ r. ⊥) held) held left → left ≡ held
left_all held left s = all_left (IsTouched (λ r. ⊥) held) held left (never held) s
