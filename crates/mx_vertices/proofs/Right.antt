-- For a node the table leads to no vertex but its own, as vertices come and go.
use Rattle.std.proofs.Common.{◌≡◌, ◌∙◌, ℕ, true, false, cond, List, Option, Some, None, refl, sym, ap, subst}
use Rattle.std.proofs.Math.ListN.{set}
use Rattle.mx_graph.specs.declared.ids.NodeId.{NodeId}
use Rattle.mx_value.specs.declared.node.Node.{Node as Asked}
use Rattle.mx_value.specs.Equality.{node_eq}
use Rattle.mx_vertices.specs.declared.slot.Held.{Held}
use Rattle.mx_vertices.specs.declared.slot.Slot.{Slot}
use Rattle.mx_vertices.specs.declared.slot.Slot.TheVariants.{Free, Node, Watch}
use Rattle.mx_vertices.specs.declared.standing.Standing.{Standing}
use Rattle.mx_vertices.specs.declared.standing.Standing.TheVariants.{Ended}
use Rattle.mx_vertices.specs.Places.{slot_at}
use Rattle.mx_vertices.specs.Found.{IsNodeAt, LeadsRight, look_without}
use Rattle.mx_vertices.proofs.Places.{slot_freed}
use Rattle.mx_vertices.proofs.Table.{NodeLaws}

-- what is there stays
pub right_same : (look look2 : Asked → Option Standing) (slots slots2 : List Slot) → ((n : Asked) → look2 n ≡ look n) → ((q : ℕ) → (slot_at slots q ≡ Free → ⊥) → slot_at slots2 q ≡ slot_at slots q) → LeadsRight look slots → LeadsRight look2 slots2
right_same look look2 slots slots2 same stays right n id e =
    let i = right n id (sym (same n) ∙ e) in
    record { held = i.held; slot = stays id.at (λ f. let no : Free ≡ Node i.held = sym f ∙ i.slot in cc) ∙ i.slot; is = i.is }

-- one more is held
pub right_last : (laws : NodeLaws) (look look2 : Asked → Option Standing) (slots slots2 : List Slot) (id : NodeId) (held : Held) → ((n : Asked) → look2 n ≡ cond (node_eq held.body.node n) (Some (Ended id)) (look n)) → slot_at slots2 id.at ≡ Node held
    → ((q : ℕ) → (slot_at slots q ≡ Free → ⊥) → slot_at slots2 q ≡ slot_at slots q) → LeadsRight look slots → LeadsRight look2 slots2
right_last laws look look2 slots slots2 id held puts there stays right n j e =
    elim (node_eq held.body.node n) as (λ b. node_eq held.body.node n ≡ b → cond b (Some (Ended id)) (look n) ≡ Some (Ended j) → IsNodeAt slots2 j.at n) [
      | true ↦ λ t f. let same : id ≡ j = cc in record { held = held; slot = ap (λ (k : NodeId). slot_at slots2 k.at) (sym same) ∙ there; is = (laws held.body.node n).0 t }
      | false ↦ λ t f. right_same look look slots slots2 (λ k. refl) stays right n j f
    ] refl (sym (puts n) ∙ e)

-- a mark leads to no vertex
pub right_marked : (look look2 : Asked → Option Standing) (o : Option Standing) (x : Asked) (slots : List Slot) → ((n : Asked) → look2 n ≡ cond (node_eq x n) o (look n)) → ((id : NodeId) → o ≡ Some (Ended id) → ⊥) → LeadsRight look slots → LeadsRight look2 slots
right_marked look look2 o x slots puts none right n id e =
    elim (node_eq x n) as (λ b. cond b o (look n) ≡ Some (Ended id) → IsNodeAt slots id.at n) [
      | true ↦ λ f. absurd (none id f)
      | false ↦ λ f. right n id f
    ] (sym (puts n) ∙ e)

-- one vertex leaves
module _ (laws : NodeLaws) (look : Asked → Option Standing) (slots : List Slot) (q : ℕ) (right : LeadsRight look slots) (n : Asked) (id : NodeId) where
  still : IsNodeAt slots id.at n → (q ≡ id.at → ⊥) → IsNodeAt (set slots q Free) id.at n
  still i other = record { held = i.held; slot = slot_freed slots q id.at other ∙ i.slot; is = i.is }

  by_slot : (t : Slot) → slot_at slots q ≡ t → look_without t look n ≡ Some (Ended id) → IsNodeAt (set slots q Free) id.at n
  by_slot Free f e =
      let i = right n id e in
      still i (λ s. let no : Free ≡ Node i.held = sym f ∙ ap (slot_at slots) s ∙ i.slot in cc)
  by_slot (Watch w) f e =
      let i = right n id e in
      still i (λ s. let no : Watch w ≡ Node i.held = sym f ∙ ap (slot_at slots) s ∙ i.slot in cc)
  by_slot (Node h) f e =
      elim (node_eq h.body.node n) as (λ b. node_eq h.body.node n ≡ b → cond b None (look n) ≡ Some (Ended id) → IsNodeAt (set slots q Free) id.at n) [
        | true ↦ λ t g. let no : None ≡ Some (Ended id) = g in cc
        | false ↦ λ t g.
            let i = right n id g in
            still i (λ s.
            let both : Node h ≡ Node i.held = sym f ∙ ap (slot_at slots) s ∙ i.slot in
            let same : h ≡ i.held = cc in
            let yes : node_eq h.body.node n ≡ true = (laws h.body.node n).1 (ap (λ (k : Held). k.body.node) same ∙ i.is) in
            let no : false ≡ true = sym t ∙ yes in
            cc)
      ] refl e

pub right_turn : (laws : NodeLaws) (look look2 : Asked → Option Standing) (slots slots2 : List Slot) (q : ℕ) → ((n : Asked) → look2 n ≡ look_without (slot_at slots q) look n) → slots2 ≡ set slots q Free → LeadsRight look slots → LeadsRight look2 slots2
right_turn laws look look2 slots slots2 q left is right n id e =
    subst (λ (xs : List Slot). IsNodeAt xs id.at n) (sym is) (by_slot laws look slots q right n id (slot_at slots q) refl (sym (left n) ∙ e))
