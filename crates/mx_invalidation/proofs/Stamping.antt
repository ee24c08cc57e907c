-- Stamps and places.
use Rattle.std.proofs.Common.{◌≡◌, ◌∙◌, ℕ, ◌+◌, List, Option, Some, refl, ap, arith}
use Rattle.mx_graph.specs.declared.ids.NodeId.{NodeId}
use Rattle.mx_graph.specs.Relation.{Entry, Graph}
use Rattle.mx_vertices.specs.declared.slot.Slot.{Slot}
use Rattle.mx_vertices.specs.Places.{slot_at, node_place}
use Rattle.mx_vertices.specs.Kept.{Kept, entries, kept, IsWhole}
use Rattle.mx_invalidation.specs.Stamps.{NoneFrom, IsFirstFrom, NoneAfter, IsNextAfter, IsHeldSince}
use Rattle.mx_vertices.proofs.Touching.{entry_at, at_entry}

module _ (edges : List Entry) (slots : List Slot) (order : List (Option NodeId)) (stamp : ℕ) where
  pub none_after : NoneFrom order stamp → NoneAfter (entries edges slots 0 order) stamp
  none_after n r h l =
      let i = entry_at edges slots 0 order r h in
      let place = i.stamp_is in
      let same : i.stamp ≡ r.stamp = ap (λ (r : Kept). r.stamp) i.is in
      n i.place i.id (omega (arith, place, same, l)) i.there

  pub next_after : (id : NodeId) → IsFirstFrom order stamp id → IsNextAfter (entries edges slots 0 order) stamp id.at
  next_after id f =
      let e = at_entry edges slots 0 order f.place id f.there in
      let place = e.stamp_is in
      record {
        entry = kept edges slots e.stamp id;
        among = e.among;
        id_is = refl;
        later = let a = f.above in omega (arith, place, a);
        least = λ r h l.
            let i = entry_at edges slots 0 order r h in
            let other = i.stamp_is in
            let same : i.stamp ≡ r.stamp = ap (λ (r : Kept). r.stamp) i.is in
            let least = f.least i.place i.id (omega (arith, other, same, l)) i.there in
            omega (arith, place, other, same, least);
      }

pub held_since : (g : Graph) (slots : List Slot) (order keys : List (Option NodeId)) → IsWhole g slots order keys → (q p : ℕ) → node_place (slot_at slots q) ≡ Some p → IsHeldSince (entries g.edges slots 0 order) q (p + 1)
held_since g slots order keys whole q p e =
    let st = whole.placed.nodes_in.stands q p e in
    let f = at_entry g.edges slots 0 order p st.id st.there in
    record { entry = kept g.edges slots f.stamp st.id; among = f.among; id_is = st.is; stamp_is = f.stamp_is ∙ (omega arith) }
