-- One vertex leaves the lists.
use Rattle.std.proofs.Common.{◌≡◌, ◌∙◌, ℕ, ◌+◌, ◌<◌, Bool, true, false, cond, eqb, zero, suc, ◌≤◌, List, [], ◌∷◌, length, Option, Some, None, is_some, map as map_list, refl, sym, ap, subst, arith, ◌⊎◌, inl, inr}
use Rattle.std.specs.Prelude.{IsSome}
use Rattle.std.specs.Ordering.{nat_cmp}
use Rattle.std.specs.FinMap as map
use Rattle.std.proofs.lemmas.Bool.{eqb-true, eqb-false}
use Rattle.std.proofs.lemmas.List.{length-set, length-map, get_or-set_same, get_or-set_other, get_or_past, set_past, ext_get_or}
use Rattle.std.proofs.Math.ListN.{set, get_or-map}
use Rattle.mx_graph.specs.declared.ids.NodeId.{NodeId}
use Rattle.mx_vertices.specs.declared.slot.Slot.{Slot}
use Rattle.mx_vertices.specs.declared.slot.Slot.TheVariants.{Free}
use Rattle.mx_vertices.specs.Places.{slot_at, node_place, cleared, CanClear, at, IsPlacedIn, if_live, held_in, counts, Has}

abbrev pub Nodes : Type 0
Nodes = map.FinMap nat_cmp Bool

-- two numbers are one or two
pub same_or : (k q : ℕ) → (k ≡ q) ⊎ (k ≡ q → ⊥)
same_or k q = elim (eqb k q) as (λ b. eqb k q ≡ b → (k ≡ q) ⊎ (k ≡ q → ⊥)) [ true ↦ λ e. inl (eqb-true k q e) | false ↦ λ e. inr (eqb-false k q e) ] refl

pub at_below : (list : List (Option NodeId)) (p : ℕ) (id : NodeId) → at list p ≡ Some id → p < length list
at_below [] p id e = let n : at [] p ≡ None = get_or_past {X = Option NodeId} [] p None (omega arith) in cc
at_below (o ∷ list) zero id e = omega arith
at_below (o ∷ list) (suc p) id e = let l = at_below list p id e in omega arith

-- what is among these stands at some place
pub at_has : (list : List (Option NodeId)) (id : NodeId) → Has list (Some id) → (p : ℕ) × (at list p ≡ Some id)
at_has [] id h = absurd h
at_has (o ∷ list) id h = elim h [ inl e ↦ (0, e) | inr i ↦ let r = at_has list id i in (suc r.0, r.1) ]

at_set : (list : List (Option NodeId)) (k p : ℕ) → at list p ≡ None → at (set list k None) p ≡ None
at_set list k p e =
    elim (same_or p k) [
      | inl s ↦ elim (below k) [
        | inl l ↦ subst (λ n. at (set list k None) n ≡ None) (sym s) (get_or-set_same list k None None l)
        | inr l ↦ subst (λ (xs : List (Option NodeId)). at xs p ≡ None) (sym (set_past list k None l)) e
      ]
      | inr n ↦ get_or-set_other list k p None None n ∙ e
    ]
  where
    below : (k : ℕ) → (k < length list) ⊎ (length list ≤ k)
    below k = grind arith

-- the slot at q once that of k is free
pub slot_freed : (slots : List Slot) (k q : ℕ) → (k ≡ q → ⊥) → slot_at (set slots k Free) q ≡ slot_at slots q
slot_freed slots k q n = get_or-set_other slots k q Free Free (λ e. n (sym e))

-- the slot that was freed
pub slot_free : (slots : List Slot) (k q : ℕ) → k ≡ q → slot_at (set slots k Free) q ≡ Free
slot_free [] k q s = get_or_past {X = Slot} [] q Free (omega arith)
slot_free (x ∷ slots) zero q s = subst (λ n. slot_at (set (x ∷ slots) 0 Free) n ≡ Free) s refl
slot_free (x ∷ slots) (suc k) q s = subst (λ n. slot_at (set (x ∷ slots) (suc k) Free) n ≡ Free) s (slot_free slots k k refl)

-- the vertex of this id leaves the graph
pub record Leaves (nodes news : Nodes) (id : NodeId) : Type 0 where
  pub gone : map.get news id.at ≡ None
  pub others : (q : ℕ) → (id.at ≡ q → ⊥) → map.get news q ≡ map.get nodes q

pub if_live_same : (nodes : Nodes) (id : NodeId) → IsSome (map.get nodes id.at) → if_live nodes (Some id) ≡ Some id
if_live_same nodes id l = ap (λ b. cond b (Some id) None) l

pub if_live_gone : (nodes : Nodes) (id : NodeId) → map.get nodes id.at ≡ None → if_live nodes (Some id) ≡ None
if_live_gone nodes id e = ap (λ o. cond (is_some o) (Some id) None) e

module _ (place : Slot → Option ℕ) (free : place Free ≡ None) (nodes news : Nodes) (slots : List Slot) (list : List (Option NodeId)) (id : NodeId) (leaves : Leaves nodes news id) (placed : IsPlacedIn place nodes slots list) where
  clear_none : (t : Option ℕ) (p : ℕ) → at list p ≡ None → at (cleared t list) p ≡ None
  clear_none None p e = e
  clear_none (Some k) p e = at_set list k p e

  stays : (t : Option ℕ) (p : ℕ) (j : NodeId) → (id.at ≡ j.at → ⊥) → place (slot_at slots id.at) ≡ t → at list p ≡ Some j → at (cleared t list) p ≡ Some j
  stays None p j n t e = e
  stays (Some k) p j n t e =
      elim (same_or p k) [
        | inl s ↦
            let st = placed.stands id.at k t in
            let there : at list p ≡ Some st.id = subst (λ m. at list m ≡ Some st.id) (sym s) st.there in
            let same : st.id ≡ j = cc in
            absurd (n (sym st.is ∙ ap (λ (i : NodeId). i.at) same))
        | inr m ↦ get_or-set_other list k p None None m ∙ e
      ]

  leaves_at : (t : Option ℕ) (p : ℕ) → p < length list → t ≡ Some p → at (cleared t list) p ≡ None
  leaves_at t p l e = subst (λ (u : Option ℕ). at (cleared u list) p ≡ None) (sym e) (get_or-set_same list p None None l)

  by_entry : (p : ℕ) (o : Option NodeId) → at list p ≡ o → at (cleared (place (slot_at slots id.at)) list) p ≡ if_live news o
  by_entry p None e = clear_none (place (slot_at slots id.at)) p e
  by_entry p (Some j) e =
      let told = placed.told p j e in
      elim (same_or id.at j.at) [
        | inl s ↦
            leaves_at (place (slot_at slots id.at)) p (at_below list p j e) (ap (λ q. place (slot_at slots q)) s ∙ told.0)
            ∙ sym (if_live_gone news j (ap (λ q. map.get news q) (sym s) ∙ leaves.gone))
        | inr n ↦
            stays (place (slot_at slots id.at)) p j n refl e
            ∙ sym (if_live_same news j (ap is_some (leaves.others j.at n) ∙ told.1))
      ]

  pub cleared_at : (p : ℕ) → at (cleared (place (slot_at slots id.at)) list) p ≡ if_live news (at list p)
  cleared_at p = by_entry p (at list p) refl

  cleared_length : (t : Option ℕ) → length (cleared t list) ≡ length list
  cleared_length None = refl
  cleared_length (Some p) = length-set list p None

  pub cleared_is : cleared (place (slot_at slots id.at)) list ≡ map_list (if_live news) list
  cleared_is =
      ext_get_or None (cleared (place (slot_at slots id.at)) list) (map_list (if_live news) list)
      (cleared_length (place (slot_at slots id.at)) ∙ sym (length-map list (if_live news)))
      (λ p l. cleared_at p ∙ sym (get_or-map (if_live news) list p None))

  told_by : (p : ℕ) (j : NodeId) (o : Option NodeId) → at list p ≡ o → if_live news o ≡ Some j → (place (slot_at (set slots id.at Free) j.at) ≡ Some p) × IsSome (map.get news j.at)
  told_by p j None e h = cc
  told_by p j (Some i) e h =
      elim (is_some (map.get news i.at)) as (λ b. is_some (map.get news i.at) ≡ b → cond b (Some i) None ≡ Some j → (place (slot_at (set slots id.at Free) j.at) ≡ Some p) × IsSome (map.get news j.at)) [
        | true ↦ λ l h.
            let same : i ≡ j = cc in
            let live : IsSome (map.get news j.at) = ap (λ (k : NodeId). is_some (map.get news k.at)) (sym same) ∙ l in
            let other : id.at ≡ j.at → ⊥ = λ s. let gone : map.get news j.at ≡ None = ap (λ q. map.get news q) (sym s) ∙ leaves.gone in let no : false ≡ true = sym (ap is_some gone) ∙ live in cc in
            (ap place (slot_freed slots id.at j.at other) ∙ ap (λ (k : NodeId). place (slot_at slots k.at)) (sym same) ∙ (placed.told p i e).0, live)
        | false ↦ λ l h. cc
      ] refl h

  pub placed_on : IsPlacedIn place news (set slots id.at Free) (cleared (place (slot_at slots id.at)) list)
  placed_on = record {
    told = λ p j h. told_by p j (at list p) refl (sym (cleared_at p) ∙ h);
    stands = λ q p h.
        elim (same_or id.at q) [
          | inl s ↦ let no : place Free ≡ Some p = ap place (sym (slot_free slots id.at q s)) ∙ h in let none : place Free ≡ None = free in cc
          | inr n ↦
              let st = placed.stands q p (ap place (sym (slot_freed slots id.at q n)) ∙ h) in
              let other : id.at ≡ st.id.at → ⊥ = λ s. n (s ∙ st.is) in
              let live : IsSome (map.get news st.id.at) = ap is_some (leaves.others st.id.at other) ∙ (placed.told p st.id st.there).1 in
              record { id = st.id; is = st.is; there = cleared_at p ∙ ap (if_live news) st.there ∙ if_live_same news st.id live }
        ];
  }

-- the place of a vertex is one of the list
pub can_clear : (place : Slot → Option ℕ) (nodes : Nodes) (slots : List Slot) (list : List (Option NodeId)) → IsPlacedIn place nodes slots list → (q : ℕ) → CanClear (place (slot_at slots q)) list
can_clear place nodes slots list h q = by (place (slot_at slots q)) refl
  where
    by : (t : Option ℕ) → place (slot_at slots q) ≡ t → CanClear t list
    by None e = tt
    by (Some p) e = let st = h.stands q p e in at_below list p st.id st.there

count_set : (list : List (Option NodeId)) (p : ℕ) (id : NodeId) → at list p ≡ Some id → held_in (set list p None) + 1 ≡ held_in list
count_set [] p id e = let n : at [] p ≡ None = get_or_past {X = Option NodeId} [] p None (omega arith) in cc
count_set (None ∷ list) zero id e = cc
count_set (Some j ∷ list) zero id e = refl
count_set (None ∷ list) (suc p) id e = count_set list p id e
count_set (Some j ∷ list) (suc p) id e = let h = count_set list p id e in omega (arith, h)

-- one less is held, where the vertex that goes is a node
pub cleared_count : (slots : List Slot) (list : List (Option NodeId)) (nodes : Nodes) (q : ℕ) → IsPlacedIn node_place nodes slots list → held_in (cleared (node_place (slot_at slots q)) list) + counts (node_place (slot_at slots q)) ≡ held_in list
cleared_count slots list nodes q h = by (node_place (slot_at slots q)) refl
  where
    by : (t : Option ℕ) → node_place (slot_at slots q) ≡ t → held_in (cleared t list) + counts t ≡ held_in list
    by None e = omega arith
    by (Some p) e = let st = h.stands q p e in count_set list p st.id st.there

-- no more are live
pub held_less : (nodes : Nodes) (list : List (Option NodeId)) → held_in (map_list (if_live nodes) list) ≤ held_in list
held_less nodes [] = omega arith
held_less nodes (None ∷ list) = held_less nodes list
held_less nodes (Some id ∷ list) =
    let h = held_less nodes list in
    elim (is_some (map.get nodes id.at)) as (λ b. held_in (cond b (Some id) None ∷ map_list (if_live nodes) list) ≤ held_in list + 1) [
      | true ↦ omega (arith, h)
      | false ↦ omega (arith, h)
    ]
