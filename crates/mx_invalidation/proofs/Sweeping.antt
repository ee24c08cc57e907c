-- What a sweep keeps at each turn.
use Rattle.std.proofs.Common.{◌≡◌, ◌∙◌, ℕ, Bool, true, false, cond, eqb, suc, List, [], ◌∷◌, Option, Some, None, is_some, map as map_list, refl, sym, ap, subst, ◌⊎◌, inl, inr}
use Rattle.std.specs.Prelude.{filter}
use Rattle.std.specs.FinMap as map
use Rattle.std.proofs.lemmas.Bool.{eqb-true, eq-eqb}
use Rattle.std.proofs.Math.ListN.{set}
use Rattle.mx_graph.specs.declared.ids.NodeId.{NodeId}
use Rattle.mx_graph.specs.Relation.{Graph, Taken, is_off, is_kept, is_set, is_marked_in}
use Rattle.mx_graph.proofs.Removal.{filter-twice, off-kept, rest-nodes}
use Rattle.mx_vertices.specs.declared.slot.Slot.{Slot}
use Rattle.mx_vertices.specs.declared.slot.Slot.TheVariants.{Free}
use Rattle.mx_vertices.specs.Places.{slot_at, node_place, key_place, cleared, at, IsPlacedIn, IsPlaced, if_live}
use Rattle.mx_vertices.proofs.Places.{Nodes, same_or, slot_freed, slot_free, Leaves, if_live_same, if_live_gone, cleared_is, placed_on}

-- a vertex is as it was, or was marked and is gone
abbrev pub IsAsWas : Nodes → Nodes → List Slot → List Slot → ℕ → Type 0
IsAsWas old nodes slots0 slots q =
    ((map.get nodes q ≡ map.get old q) × (slot_at slots q ≡ slot_at slots0 q)) ⊎ ((map.get old q ≡ Some true) × (map.get nodes q ≡ None) × (slot_at slots q ≡ Free))

pub record IsSweeping (old : Graph) (slots0 : List Slot) (order0 keys0 : List (Option NodeId)) (now : Graph) (slots : List Slot) (order keys : List (Option NodeId)) : Type 0 where
  pub placed : IsPlaced now.nodes slots order keys
  pub rest : (q : ℕ) → IsAsWas old.nodes now.nodes slots0 slots q
  pub edges : filter (is_kept old.nodes) now.edges ≡ filter (is_kept old.nodes) old.edges
  pub order_is : order ≡ map_list (if_live now.nodes) order0
  pub keys_is : keys ≡ map_list (if_live now.nodes) keys0

pub leaving : (old new : Graph) (id : NodeId) → Taken old new id → Leaves old.nodes new.nodes id
leaving old new id t = record {
  gone = t.nodes id.at ∙ ap (λ b. cond b None (map.get old.nodes id.at)) (eq-eqb id.at id.at refl);
  others = λ q n. t.nodes q ∙ elim (eqb id.at q) as (λ b. eqb id.at q ≡ b → cond b None (map.get old.nodes q) ≡ map.get old.nodes q) [ true ↦ λ e. absurd (n (eqb-true id.at q e)) | false ↦ λ e. refl ] refl;
}

if_live_twice : (nodes news : Nodes) (id : NodeId) → Leaves nodes news id → (o : Option NodeId) → if_live news (if_live nodes o) ≡ if_live news o
if_live_twice nodes news id l None = refl
if_live_twice nodes news id l (Some j) =
    elim (is_some (map.get nodes j.at)) as (λ b. is_some (map.get nodes j.at) ≡ b → if_live news (cond b (Some j) None) ≡ if_live news (Some j)) [
      | true ↦ λ e. refl
      | false ↦ λ e. sym (if_live_gone news j (elim (same_or id.at j.at) [
        | inl s ↦ ap (λ q. map.get news q) (sym s) ∙ l.gone
        | inr n ↦ l.others j.at n ∙ none (map.get nodes j.at) e
      ]))
    ] refl
  where
    none : (o : Option Bool) → is_some o ≡ false → o ≡ None
    none None e = refl
    none (Some b) e = cc

live_twice : (nodes news : Nodes) (id : NodeId) → Leaves nodes news id → (list : List (Option NodeId)) → map_list (if_live news) (map_list (if_live nodes) list) ≡ map_list (if_live news) list
live_twice nodes news id l [] = refl
live_twice nodes news id l (o ∷ list) = let a : if_live news (if_live nodes o) ≡ if_live news o = if_live_twice nodes news id l o in let b = live_twice nodes news id l list in cc

pub live_all : (place : Slot → Option ℕ) (nodes : Nodes) (slots : List Slot) (whole list : List (Option NodeId)) → IsPlacedIn place nodes slots whole → ((p : ℕ) → (q : ℕ) × (at list p ≡ at whole q)) → map_list (if_live nodes) list ≡ list
live_all place nodes slots whole [] h k = refl
live_all place nodes slots whole (None ∷ list) h k = ap (λ xs. None ∷ xs) (live_all place nodes slots whole list h (λ p. k (suc p)))
live_all place nodes slots whole (Some id ∷ list) h k =
    let f = k 0 in
    let a : if_live nodes (Some id) ≡ Some id = if_live_same nodes id (h.told f.0 id (sym f.1)).1 in
    let b = live_all place nodes slots whole list h (λ p. k (suc p)) in
    cc

pub sweep_begin : (g : Graph) (slots : List Slot) (order keys : List (Option NodeId)) → IsPlaced g.nodes slots order keys → IsSweeping g slots order keys g slots order keys
sweep_begin g slots order keys p = record {
  placed = p;
  rest = λ q. inl (refl, refl);
  edges = refl;
  order_is = sym (live_all node_place g.nodes slots order order p.nodes_in (λ p. (p, refl)));
  keys_is = sym (live_all key_place g.nodes slots keys keys p.keys_in (λ p. (p, refl)));
}

module _ (old : Graph) (slots0 : List Slot) (order0 keys0 : List (Option NodeId)) (now new : Graph) (slots : List Slot) (order keys : List (Option NodeId)) (id : NodeId) (s : IsSweeping old slots0 order0 keys0 now slots order keys) (t : Taken now new id) where
  l : Leaves now.nodes new.nodes id
  l = leaving now new id t

  pub was_marked : map.get old.nodes id.at ≡ Some true
  was_marked = elim (s.rest id.at) [ inl a ↦ sym a.0 ∙ t.marked | inr a ↦ a.0 ]

  pub sweep_turn : IsSweeping old slots0 order0 keys0 new (set slots id.at Free) (cleared (node_place (slot_at slots id.at)) order) (cleared (key_place (slot_at slots id.at)) keys)
  sweep_turn = record {
    placed = record {
      live = λ q h f.
          elim (same_or id.at q) [
            | inl e ↦ let gone : map.get new.nodes q ≡ None = ap (λ k. map.get new.nodes k) (sym e) ∙ l.gone in let no : false ≡ true = sym (ap is_some gone) ∙ h in cc
            | inr n ↦ s.placed.live q (ap is_some (sym (l.others q n)) ∙ h) (sym (slot_freed slots id.at q n) ∙ f)
          ];
      nodes_in = placed_on node_place refl now.nodes new.nodes slots order id l s.placed.nodes_in;
      keys_in = placed_on key_place refl now.nodes new.nodes slots keys id l s.placed.keys_in;
    };
    rest = λ q.
        elim (same_or id.at q) [
          | inl e ↦ inr (ap (λ k. map.get old.nodes k) (sym e) ∙ was_marked, ap (λ k. map.get new.nodes k) (sym e) ∙ l.gone, slot_free slots id.at q e)
          | inr n ↦ elim (s.rest q) [
            | inl a ↦ inl (l.others q n ∙ a.0, slot_freed slots id.at q n ∙ a.1)
            | inr a ↦ inr (a.0, l.others q n ∙ a.1, slot_freed slots id.at q n ∙ a.2)
          ]
        ];
    edges = ap (filter (is_kept old.nodes)) t.edges ∙ filter-twice (is_kept old.nodes) (is_off id) now.edges (off-kept old.nodes id was_marked) ∙ s.edges;
    order_is = cleared_is node_place refl now.nodes new.nodes slots order id l s.placed.nodes_in ∙ ap (map_list (if_live new.nodes)) s.order_is ∙ live_twice now.nodes new.nodes id l order0;
    keys_is = cleared_is key_place refl now.nodes new.nodes slots keys id l s.placed.keys_in ∙ ap (map_list (if_live new.nodes)) s.keys_is ∙ live_twice now.nodes new.nodes id l keys0;
  }

module _ (old : Graph) (slots0 : List Slot) (order0 keys0 : List (Option NodeId)) (now : Graph) (slots : List Slot) (order keys : List (Option NodeId)) (s : IsSweeping old slots0 order0 keys0 now slots order keys) (none : (q : ℕ) → map.get now.nodes q ≡ Some true → ⊥) where
  pub rest_of : (q : ℕ) → (map.get now.nodes q ≡ map.get old.nodes q) ⊎ ((map.get old.nodes q ≡ Some true) × (map.get now.nodes q ≡ None))
  rest_of q = elim (s.rest q) [ inl a ↦ inl a.0 | inr a ↦ inr (a.0, a.1) ]

  pub nodes_end : (q : ℕ) → map.get now.nodes q ≡ cond (is_marked_in old.nodes q) None (map.get old.nodes q)
  nodes_end = rest-nodes old.nodes now.nodes rest_of none

  slot_by : (q : ℕ) (o : Option Bool) → map.get old.nodes q ≡ o → IsAsWas old.nodes now.nodes slots0 slots q → slot_at slots q ≡ cond (is_set o) Free (slot_at slots0 q)
  slot_by q None e (inl a) = a.1
  slot_by q None e (inr a) = let b : map.get old.nodes q ≡ Some true = a.0 in cc
  slot_by q (Some true) e (inl a) = absurd (none q (a.0 ∙ e))
  slot_by q (Some true) e (inr a) = a.2
  slot_by q (Some false) e (inl a) = a.1
  slot_by q (Some false) e (inr a) = let b : map.get old.nodes q ≡ Some true = a.0 in cc

  pub slots_end : (q : ℕ) → slot_at slots q ≡ cond (is_marked_in old.nodes q) Free (slot_at slots0 q)
  slots_end q = slot_by q (map.get old.nodes q) refl (s.rest q)

-- the same of what a call left
pub sweep_same : (old : Graph) (slots0 : List Slot) (order0 keys0 : List (Option NodeId)) (new : Graph) (slots slots2 : List Slot) (order order2 keys keys2 : List (Option NodeId)) (id : NodeId) (q : ℕ) → q ≡ id.at
    → slots2 ≡ set slots q Free → order2 ≡ cleared (node_place (slot_at slots q)) order → keys2 ≡ cleared (key_place (slot_at slots q)) keys
    → IsSweeping old slots0 order0 keys0 new (set slots id.at Free) (cleared (node_place (slot_at slots id.at)) order) (cleared (key_place (slot_at slots id.at)) keys)
    → IsSweeping old slots0 order0 keys0 new slots2 order2 keys2
sweep_same old slots0 order0 keys0 new slots slots2 order order2 keys keys2 id q e s o k t =
    let t2 = subst (λ (n : ℕ). IsSweeping old slots0 order0 keys0 new (set slots n Free) (cleared (node_place (slot_at slots n)) order) (cleared (key_place (slot_at slots n)) keys)) (sym e) t in
    let t3 = subst (λ (xs : List Slot). IsSweeping old slots0 order0 keys0 new xs (cleared (node_place (slot_at slots q)) order) (cleared (key_place (slot_at slots q)) keys)) (sym s) t2 in
    let t4 = subst (λ (xs : List (Option NodeId)). IsSweeping old slots0 order0 keys0 new slots2 xs (cleared (key_place (slot_at slots q)) keys)) (sym o) t3 in
    subst (λ (xs : List (Option NodeId)). IsSweeping old slots0 order0 keys0 new slots2 order2 xs) (sym k) t4
