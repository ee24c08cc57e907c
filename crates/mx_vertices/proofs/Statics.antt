-- How static nodes are found.
use Rattle.std.proofs.Common.{◌≡◌, ◌∙◌, ℕ, List, Option, Some, None, sym, ap}
use Rattle.mx_graph.specs.declared.ids.NodeId.{NodeId}
use Rattle.mx_value.specs.declared.node.Node.{Node as Asked}
use Rattle.mx_vertices.specs.declared.slot.Slot.{Slot}
use Rattle.mx_vertices.specs.declared.standing.Standing.{Standing}
use Rattle.mx_vertices.specs.declared.standing.Standing.TheVariants.{Begun, Ended}
use Rattle.mx_vertices.specs.Places.{node_place, IsPlacedIn}
use Rattle.mx_vertices.specs.Found.{node_at, IsFound, IsNodeAt, LeadsTo}
use Rattle.mx_vertices.specs.Kept.{body_of}
use Rattle.mx_vertices.proofs.Places.{Nodes}

-- a table that leads to each held node that stands leads to each vertex
pub leads : (look : Asked → Option Standing) (nodes : Nodes) (slots : List Slot) (order : List (Option NodeId)) → IsPlacedIn node_place nodes slots order → IsFound look slots order → LeadsTo look slots
leads look nodes slots order placed found q h e =
    let st = placed.stands q h.place (ap node_place e) in
    let n : node_at slots st.id.at ≡ h.body.node = ap (node_at slots) st.is ∙ ap (λ (s : Slot). (body_of s).node) e in
    (st.id, ap look (sym n) ∙ found h.place st.id st.there, st.is)

module _ (look : Asked → Option Standing) (slots : List Slot) (lead : LeadsTo look slots) (n : Asked) where
  -- where the table leads
  led : (q : ℕ) → IsNodeAt slots q n → (id : NodeId) × (look n ≡ Some (Ended id)) × (id.at ≡ q)
  led q i = let l = lead q i.held i.slot in (l.0, ap look (sym i.is) ∙ l.1, l.2)

  pub is_led : look n ≡ None → (q : ℕ) → IsNodeAt slots q n → ⊥
  is_led none q i = let l = led q i in let e : None ≡ Some (Ended l.0) = sym none ∙ l.1 in cc

  pub not_led : look n ≡ Some Begun → (q : ℕ) → IsNodeAt slots q n → ⊥
  not_led begun q i = let l = led q i in let e : Some Begun ≡ Some (Ended l.0) = sym begun ∙ l.1 in let no : Begun ≡ Ended l.0 = cc in cc

  pub led_at : (id : NodeId) → look n ≡ Some (Ended id) → (q : ℕ) → IsNodeAt slots q n → id.at ≡ q
  led_at id ended q i =
      let l = led q i in
      let e : Some (Ended id) ≡ Some (Ended l.0) = sym ended ∙ l.1 in
      let same : id ≡ l.0 = cc in
      ap (λ (k : NodeId). k.at) same ∙ l.2
