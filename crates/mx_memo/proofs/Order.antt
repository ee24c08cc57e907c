-- Nodes are held in order.
use Rattle.std.proofs.Common.{◌≡◌, ◌∙◌, ℕ, ◌+◌, ◌<◌, ◌≤◌, List, [], ◌∷◌, Option, Some, None, length, sym, ap, arith}
use Rattle.mx_graph.specs.declared.ids.NodeId.{NodeId}
use Rattle.mx_graph.specs.Relation.{Entry, Graph}
use Rattle.mx_vertices.specs.declared.slot.Slot.{Slot}
use Rattle.mx_vertices.specs.Places.{Has, StandOnce}
use Rattle.mx_vertices.specs.Kept.{Kept, entries, IsWhole}
use Rattle.mx_vertices.proofs.Places.{at_below}
use Rattle.mx_vertices.proofs.Touching.{entry_at}
use Rattle.mx_invalidation.proofs.Settled.{order_once}
use Rattle.mx_invalidation.proofs.Settling.{has_there}
use Rattle.mx_memo.specs.Memos.{Memory}
use Rattle.mx_memo.specs.Restoring.{AreApart}
use Rattle.mx_memo.specs.Order.{StampsRise, IsInOrder}

rise_later : (p q : ℕ) (rs : List Kept) → p ≤ q → StampsRise q rs → StampsRise p rs
rise_later p q [] l r = tt
rise_later p q (x ∷ rs) l r = (let b = r.0 in omega (arith, b, l), r.1)

module _ (edges : List Entry) (slots : List Slot) where
  entries_apart : (p : ℕ) (list : List (Option NodeId)) → StandOnce list → AreApart (entries edges slots p list)
  entries_apart p [] once = tt
  entries_apart p (None ∷ list) once = entries_apart (p + 1) list once
  entries_apart p (Some id ∷ list) once = (
    λ s h e.
        let f = entry_at edges slots (p + 1) list s h in
        once.0 f.id (has_there list f.place f.id f.there) (e ∙ ap (λ (r : Kept). r.id) (sym f.is)),
    entries_apart (p + 1) list once.1,
  )

  entries_rise : (p : ℕ) (list : List (Option NodeId)) → StampsRise p (entries edges slots p list)
  entries_rise p [] = tt
  entries_rise p (None ∷ list) = rise_later p (p + 1) (entries edges slots (p + 1) list) (omega arith) (entries_rise (p + 1) list)
  entries_rise p (Some id ∷ list) = (omega arith, entries_rise (p + 1) list)

  entries_given : (list : List (Option NodeId)) (r : Kept) → Has (entries edges slots 0 list) r → r.stamp ≤ length list
  entries_given list r h =
      let f = entry_at edges slots 0 list r h in
      let stamp = f.stamp_is in
      let same : f.stamp ≡ r.stamp = ap (λ (k : Kept). k.stamp) f.is in
      let below : f.place < length list = at_below list f.place f.id f.there in
      omega (arith, stamp, same, below)

pub in_order : (g : Graph) (slots : List Slot) (order keys : List (Option NodeId)) (m : Memory) → IsWhole g slots order keys → IsInOrder (record m { held = entries g.edges slots 0 order; last = length order })
in_order g slots order keys m whole = record {
  apart = entries_apart g.edges slots 0 order (order_once g slots slots order keys whole);
  rising = entries_rise g.edges slots 0 order;
  given = entries_given g.edges slots order;
}
