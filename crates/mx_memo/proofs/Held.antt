-- What is held of a node, where each node stands once.
use Rattle.std.proofs.Common.{◌≡◌, ◌∙◌, ℕ, true, false, cond, List, [], ◌∷◌, Option, Some, None, refl, sym, ap, inl, inr}
use Rattle.mx_graph.specs.declared.ids.NodeId.{NodeId}
use Rattle.mx_graph.specs.Relation.{Graph}
use Rattle.mx_value.specs.Equality.{node_eq}
use Rattle.mx_value.specs.declared.node.Node.{Node as Asked}
use Rattle.mx_vertices.specs.declared.slot.Body.{Body}
use Rattle.mx_vertices.specs.declared.slot.Slot.{Slot}
use Rattle.mx_vertices.specs.declared.slot.Slot.TheVariants.{Free, Node, Watch}
use Rattle.mx_vertices.specs.declared.slot.Held.{Held}
use Rattle.mx_vertices.specs.declared.standing.Standing.{Standing}
use Rattle.mx_vertices.specs.declared.standing.Standing.TheVariants.{Ended}
use Rattle.mx_vertices.specs.Places.{slot_at, node_place, Has}
use Rattle.mx_vertices.specs.Found.{node_at, IsFound, IsNodeAt, IsNew}
use Rattle.mx_vertices.specs.Kept.{Kept, kept, entries, body_of, IsWhole}
use Rattle.mx_vertices.proofs.Table.{NodeLaws}
use Rattle.mx_vertices.proofs.Touching.{entry_at, at_entry}
use Rattle.mx_vertices.proofs.Statics.{leads, led_at}
use Rattle.mx_memo.specs.Namespaces.{namespace_held}

-- where all that is held of a node is this, its namespace is held
pub namespace_of_held : NodeLaws → (held : List Kept) (n : Asked) (body : Body) → ((r : Kept) → Has held r → r.body.node ≡ n → r.body ≡ body) → (r : Kept) → Has held r → r.body.node ≡ n → namespace_held held n ≡ body.reply.namespace
namespace_of_held laws [] n body same r h e = absurd h
namespace_of_held laws (x ∷ held) n body same r h e =
    elim (node_eq x.body.node n) as (λ b. node_eq x.body.node n ≡ b → cond b x.body.reply.namespace (namespace_held held n) ≡ body.reply.namespace) [
      | true ↦ λ t. ap (λ (k : Body). k.reply.namespace) (same x (inl refl) ((laws x.body.node n).0 t))
      | false ↦ λ t. elim h [
        | inl s ↦ let no : false ≡ true = sym t ∙ (laws x.body.node n).1 (ap (λ (k : Kept). k.body.node) s ∙ e) in cc
        | inr i ↦ namespace_of_held laws held n body (λ k j. same k (inr j)) r i e
      ]
    ] refl

-- for a new node none is held
pub namespace_of_new : NodeLaws → (held : List Kept) (n : Asked) → IsNew held n → namespace_held held n ≡ None
namespace_of_new laws [] n new = refl
namespace_of_new laws (x ∷ held) n new =
    elim (node_eq x.body.node n) as (λ b. node_eq x.body.node n ≡ b → cond b x.body.reply.namespace (namespace_held held n) ≡ None) [
      | true ↦ λ t. absurd (new x (inl refl) ((laws x.body.node n).0 t))
      | false ↦ λ t. namespace_of_new laws held n (λ r i. new r (inr i))
    ] refl

module _ (laws : NodeLaws) (g : Graph) (slots : List Slot) (order keys : List (Option NodeId)) (whole : IsWhole g slots order keys) (look : Asked → Option Standing) (found : IsFound look slots order) (n : Asked) where
  -- the namespace of the one vertex that is the node
  pub namespace_at : (id : NodeId) → IsNodeAt slots id.at n → namespace_held (entries g.edges slots 0 order) n ≡ (body_of (slot_at slots id.at)).reply.namespace
  namespace_at id i =
      let st = whole.placed.nodes_in.stands id.at i.held.place (ap node_place i.slot) in
      let f = at_entry g.edges slots 0 order i.held.place st.id st.there in
      let node : node_at slots st.id.at ≡ n = ap (node_at slots) st.is ∙ ap (λ (s : Slot). (body_of s).node) i.slot ∙ i.is in
      namespace_of_held laws (entries g.edges slots 0 order) n (body_of (slot_at slots id.at)) one (kept g.edges slots f.stamp st.id) f.among node
    where
      one : (r : Kept) → Has (entries g.edges slots 0 order) r → r.body.node ≡ n → r.body ≡ body_of (slot_at slots id.at)
      one r h e =
          let j = entry_at g.edges slots 0 order r h in
          let at_j : look n ≡ Some (Ended j.id) = ap look (sym e ∙ ap (λ (k : Kept). k.body.node) (sym j.is)) ∙ found j.place j.id j.there in
          let same : j.id.at ≡ id.at = led_at look slots (leads look g.nodes slots order whole.placed.nodes_in found) n j.id at_j id.at i in
          ap (λ (k : Kept). k.body) (sym j.is) ∙ ap (λ q. body_of (slot_at slots q)) same

  -- where no vertex is the node, none is held
  pub namespace_none : ((q : ℕ) → IsNodeAt slots q n → ⊥) → namespace_held (entries g.edges slots 0 order) n ≡ None
  namespace_none none =
      namespace_of_new laws (entries g.edges slots 0 order) n
      (λ r h e.
      let j = entry_at g.edges slots 0 order r h in
      let s = slot_of j.id.at j.place (slot_at slots j.id.at) refl (whole.placed.nodes_in.told j.place j.id j.there).0 in
      none j.id.at (record { held = s.0; slot = s.1; is = ap (λ (t : Slot). (body_of t).node) (sym s.1) ∙ ap (λ (k : Kept). k.body.node) j.is ∙ e }))
    where
      slot_of : (q p : ℕ) (t : Slot) → slot_at slots q ≡ t → node_place t ≡ Some p → (h : Held) × (slot_at slots q ≡ Node h)
      slot_of q p Free e m = cc
      slot_of q p (Watch w) e m = cc
      slot_of q p (Node h) e m = (h, e)
