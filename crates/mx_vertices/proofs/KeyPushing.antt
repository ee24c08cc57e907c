-- A key that is added.
use Rattle.std.proofs.Common.{◌≡◌, ◌∙◌, ℕ, true, false, cond, eqb, suc, zero, List, [], ◌∷◌, ◌++◌, length, Option, Some, None, is_some, refl, sym, ap, subst, arith, ◌⊎◌, inl, inr}
use Rattle.std.specs.Prelude.{IsSome}
use Rattle.std.specs.Ordering.{nat_cmp, eq_by_cmp}
use Rattle.std.specs.Cmp.{nat_cmp_total}
use Rattle.std.specs.FinMap as map
use Rattle.std.proofs.lemmas.Bool.{eqb-true, eq-eqb}
use Rattle.std.proofs.lemmas.Bool.Decides.{nat_tests}
use Rattle.std.proofs.lemmas.List.{get_or_past, get_or_append_left, get_or_push}
use Rattle.mx_graph.specs.declared.ids.NodeId.{NodeId}
use Rattle.mx_graph.specs.Relation.{Entry, Graph, IsRelation, find}
use Rattle.mx_vertices.specs.declared.slot.Slot.{Slot}
use Rattle.mx_vertices.specs.declared.slot.Watched.{Watched}
use Rattle.mx_vertices.specs.declared.slot.Slot.TheVariants.{Free, Watch}
use Rattle.mx_vertices.specs.Places.{slot_at, node_place, key_place, at, IsPlacedIn}
use Rattle.mx_vertices.specs.Kept.{entries, IsNode, IsWhole}
use Rattle.mx_vertices.proofs.Places.{Nodes, same_or, at_below, at_has}
use Rattle.mx_vertices.proofs.Edges.{has_find}
use Rattle.mx_vertices.proofs.Pushing.{entries_live}

-- a new vertex, for a key that is not there, stands at the last place
module _ (g h : Graph) (slots slots2 : List Slot) (order keys : List (Option NodeId)) (id : NodeId) (watched : Watched) (relation : IsRelation g) (w : IsWhole g slots order keys)
    (fresh : map.get g.nodes id.at ≡ None) (nodes : h.nodes ≡ map.insert g.nodes id.at false) (edges : h.edges ≡ g.edges)
    (slot : (q : ℕ) → slot_at slots2 q ≡ cond (eqb id.at q) (Watch watched) (slot_at slots q)) (new : (q : ℕ) (v : Watched) → slot_at slots q ≡ Watch v → v.key ≡ watched.key → ⊥) (last : watched.place ≡ length keys) where
  get_new : (q : ℕ) → map.get h.nodes q ≡ cond (eq_by_cmp nat_cmp q id.at) (Some false) (map.get g.nodes q)
  get_new q = ap (λ (m : Nodes). map.get m q) nodes ∙ map.get-insert nat_cmp_total g.nodes id.at false q

  get_here : map.get h.nodes id.at ≡ Some false
  get_here = let t : eq_by_cmp nat_cmp id.at id.at ≡ true = grind (arith, nat_tests) in get_new id.at ∙ ap (λ b. cond b (Some false) (map.get g.nodes id.at)) t

  get_other : (q : ℕ) → (id.at ≡ q → ⊥) → map.get h.nodes q ≡ map.get g.nodes q
  get_other q n =
      let m : q ≡ id.at → ⊥ = λ e. n (sym e) in
      let t : eq_by_cmp nat_cmp q id.at ≡ false = grind (arith, nat_tests) in
      get_new q ∙ ap (λ b. cond b (Some false) (map.get g.nodes q)) t

  slot_here : slot_at slots2 id.at ≡ Watch watched
  slot_here = slot id.at ∙ ap (λ b. cond b (Watch watched) (slot_at slots id.at)) (eq-eqb id.at id.at refl)

  slot_other : (q : ℕ) → (id.at ≡ q → ⊥) → slot_at slots2 q ≡ slot_at slots q
  slot_other q n = slot q ∙ elim (eqb id.at q) as (λ b. eqb id.at q ≡ b → cond b (Watch watched) (slot_at slots q) ≡ slot_at slots q) [ true ↦ λ e. absurd (n (eqb-true id.at q e)) | false ↦ λ e. refl ] refl

  live_other : (q : ℕ) → IsSome (map.get g.nodes q) → id.at ≡ q → ⊥
  live_other q l e = let none : map.get g.nodes q ≡ None = ap (λ k. map.get g.nodes k) (sym e) ∙ fresh in let no : false ≡ true = sym (ap is_some none) ∙ l in cc

  -- the slot was free
  free : (q : ℕ) (place : Slot → Option ℕ) (list : List (Option NodeId)) (p : ℕ) → IsPlacedIn place g.nodes slots list → place (slot_at slots q) ≡ Some p → id.at ≡ q → ⊥
  free q place list p in_list e s =
      let st = in_list.stands q p e in
      live_other st.id.at (in_list.told p st.id st.there).1 (s ∙ sym st.is)

  at_new : (p : ℕ) (o : Option NodeId) → at (keys ++ Some id ∷ []) p ≡ o → (at keys p ≡ o) ⊎ ((p ≡ length keys) × (o ≡ Some id))
  at_new p o e = by keys p e
    where
      by : (list : List (Option NodeId)) (k : ℕ) → at (list ++ Some id ∷ []) k ≡ o → (at list k ≡ o) ⊎ ((k ≡ length list) × (o ≡ Some id))
      by [] zero e = inr (refl, sym e)
      by [] (suc k) e = inl (get_or_past {X = Option NodeId} [] (suc k) None (omega arith) ∙ sym (get_or_past {X = Option NodeId} (Some id ∷ []) (suc k) None (omega arith)) ∙ e)
      by (x ∷ list) zero e = inl e
      by (x ∷ list) (suc k) e = elim (by list k e) [ inl a ↦ inl a | inr a ↦ inr (let n = a.0 in omega arith, a.1) ]

  at_old : (p : ℕ) (j : NodeId) → at keys p ≡ Some j → at (keys ++ Some id ∷ []) p ≡ Some j
  at_old p j e = get_or_append_left keys (Some id ∷ []) None p (at_below keys p j e) ∙ e

  key_cases : (q : ℕ) (u : Watched) → slot_at slots2 q ≡ Watch u → (slot_at slots q ≡ Watch u) ⊎ ((id.at ≡ q) × (watched ≡ u))
  key_cases q u a =
      elim (same_or id.at q) [
        | inl s ↦ let same : Watch watched ≡ Watch u = sym slot_here ∙ ap (slot_at slots2) s ∙ a in inr (s, cc)
        | inr n ↦ inl (sym (slot_other q n) ∙ a)
      ]

  key_once : (q r : ℕ) (u v : Watched) → slot_at slots2 q ≡ Watch u → slot_at slots2 r ≡ Watch v → u.key ≡ v.key → q ≡ r
  key_once q r u v a b e =
      elim (key_cases q u a) [
        | inl x ↦ elim (key_cases r v b) [
          | inl y ↦ w.once q r u v x y e
          | inr y ↦ absurd (new q u x (e ∙ ap (λ (z : Watched). z.key) (sym y.1)))
        ]
        | inr x ↦ elim (key_cases r v b) [
          | inl y ↦ absurd (new r v y (sym e ∙ ap (λ (z : Watched). z.key) (sym x.1)))
          | inr y ↦ sym x.0 ∙ y.0
        ]
      ]

  pub put_key_whole : IsWhole h slots2 order (keys ++ Some id ∷ [])
  put_key_whole = record {
    placed = record {
      live = λ q l f.
          elim (same_or id.at q) [
            | inl e ↦ let no : Watch watched ≡ Free = sym slot_here ∙ ap (slot_at slots2) e ∙ f in cc
            | inr n ↦ w.placed.live q (ap is_some (sym (get_other q n)) ∙ l) (sym (slot_other q n) ∙ f)
          ];
      keys_in = record {
        told = λ p j e.
            elim (at_new p (Some j) e) [
              | inl a ↦
                  let t = w.placed.keys_in.told p j a in
                  let n = live_other j.at t.1 in
                  (ap key_place (slot_other j.at n) ∙ t.0, ap is_some (get_other j.at n) ∙ t.1)
              | inr a ↦
                  let s : j ≡ id = let b = a.1 in cc in
                  let l : length keys ≡ p = sym a.0 in
                  (ap (λ (k : NodeId). key_place (slot_at slots2 k.at)) s ∙ ap key_place slot_here ∙ ap Some (last ∙ l), ap (λ (k : NodeId). is_some (map.get h.nodes k.at)) s ∙ ap is_some get_here)
            ];
        stands = λ q p e.
            elim (same_or id.at q) [
              | inl s ↦
                  let same : Some watched.place ≡ Some p = ap key_place (sym slot_here) ∙ ap (λ k. key_place (slot_at slots2 k)) s ∙ e in
                  let place : length keys ≡ p = let l = last in cc in
                  record { id = id; is = s; there = get_or_push keys (Some id) None p place }
              | inr n ↦
                  let st = w.placed.keys_in.stands q p (ap key_place (sym (slot_other q n)) ∙ e) in
                  record { id = st.id; is = st.is; there = at_old p st.id st.there }
            ];
      };
      nodes_in = record {
        told = λ p j e.
            let t = w.placed.nodes_in.told p j e in
            let n = live_other j.at t.1 in
            (ap node_place (slot_other j.at n) ∙ t.0, ap is_some (get_other j.at n) ∙ t.1);
        stands = λ q p e.
            elim (same_or id.at q) [
              | inl s ↦ let none : None ≡ Some p = ap node_place (sym slot_here) ∙ ap (λ k. node_place (slot_at slots2 k)) s ∙ e in cc
              | inr n ↦ w.placed.nodes_in.stands q p (ap node_place (sym (slot_other q n)) ∙ e)
            ];
      };
    };
    unmarked = λ q m.
        elim (same_or id.at q) [
          | inl s ↦ let no : Some false ≡ Some true = sym get_here ∙ ap (λ k. map.get h.nodes k) s ∙ m in cc
          | inr n ↦ w.unmarked q (sym (get_other q n) ∙ m)
        ];
    reads = λ k e f.
        let f2 : find k g.edges ≡ Some e = ap (find k) (sym edges) ∙ f in
        subst IsNode (sym (slot_other e.reader.at (live_other e.reader.at (relation.between k e f2).0))) (w.reads k e f2);
    once = key_once;
  }

  pub put_key_entries : entries h.edges slots2 0 order ≡ entries g.edges slots 0 order
  put_key_entries =
      ap (λ (es : List Entry). entries es slots2 0 order) edges
      ∙ entries_live slots slots2 g.edges (λ e i. slot_other e.read.at (live_other e.read.at (relation.between e.id.at e (has_find g.edges relation.apart e i)).1)) 0 order
      (λ j i. let p = at_has order j i in slot_other j.at (live_other j.at (w.placed.nodes_in.told p.0 j p.1).1))
