-- Slots and places that are added.
use Rattle.std.proofs.Common.{◌≡◌, ◌∙◌, ℕ, ◌+◌, true, false, cond, eqb, suc, zero, List, [], ◌∷◌, ◌++◌, length, Option, Some, None, is_some, refl, sym, ap, subst, arith, ◌⊎◌, inl, inr}
use Rattle.std.specs.Prelude.{IsSome}
use Rattle.std.specs.Ordering.{nat_cmp, eq_by_cmp}
use Rattle.std.specs.Cmp.{nat_cmp_total}
use Rattle.std.specs.FinMap as map
use Rattle.std.proofs.lemmas.Bool.{eqb-true, eq-eqb}
use Rattle.std.proofs.lemmas.Bool.Decides.{nat_tests}
use Rattle.std.proofs.lemmas.List.{get_or_past, get_or_append_left, get_or_push, set_at, append-nil}
use Rattle.std.proofs.Math.ListN.{set}
use Rattle.mx_graph.specs.declared.ids.NodeId.{NodeId}
use Rattle.mx_graph.specs.Relation.{Entry, Graph, IsApart, IsRelation, find}
use Rattle.mx_vertices.specs.declared.slot.Slot.{Slot}
use Rattle.mx_vertices.specs.declared.slot.Held.{Held}
use Rattle.mx_vertices.specs.declared.slot.Watched.{Watched}
use Rattle.mx_vertices.specs.declared.slot.Slot.TheVariants.{Free, Node, Watch}
use Rattle.mx_vertices.specs.Places.{slot_at, node_place, key_place, at, IsPlacedIn, Has}
use Rattle.mx_vertices.specs.Kept.{Kept, Source, own_key, sources_at, source_in, kept, entries, body_of, IsNode, IsWhole}
use Rattle.mx_vertices.proofs.Places.{Nodes, same_or, at_below, at_has}
use Rattle.mx_vertices.proofs.Edges.{has_find}

pub push_same : (slots : List Slot) (q : ℕ) → slot_at (slots ++ Free ∷ []) q ≡ slot_at slots q
push_same [] zero = refl
push_same [] (suc q) = get_or_past {X = Slot} (Free ∷ []) (suc q) Free (omega arith) ∙ sym (get_or_past {X = Slot} [] (suc q) Free (omega arith))
push_same (s ∷ slots) zero = refl
push_same (s ∷ slots) (suc q) = push_same slots q

pub none_same : (list : List (Option NodeId)) (p : ℕ) → at (list ++ None ∷ []) p ≡ at list p
none_same [] zero = refl
none_same [] (suc p) = get_or_past {X = Option NodeId} (None ∷ []) (suc p) None (omega arith) ∙ sym (get_or_past {X = Option NodeId} [] (suc p) None (omega arith))
none_same (o ∷ list) zero = refl
none_same (o ∷ list) (suc p) = none_same list p

-- nothing is seen of what is free
module _ (g h : Graph) (slots slots2 : List Slot) (order order2 keys : List (Option NodeId)) (nodes : h.nodes ≡ g.nodes) (edges : h.edges ≡ g.edges) (slot : (q : ℕ) → slot_at slots2 q ≡ slot_at slots q) (place : (p : ℕ) → at order2 p ≡ at order p) where
  get_same : (q : ℕ) → map.get h.nodes q ≡ map.get g.nodes q
  get_same q = ap (λ (m : Nodes). map.get m q) nodes

  pub whole_same : IsWhole g slots order keys → IsWhole h slots2 order2 keys
  whole_same w = record {
    placed = record {
      live = λ q l f. w.placed.live q (ap is_some (sym (get_same q)) ∙ l) (sym (slot q) ∙ f);
      nodes_in = record {
        told = λ p id e. let t = w.placed.nodes_in.told p id (sym (place p) ∙ e) in (ap node_place (slot id.at) ∙ t.0, ap is_some (get_same id.at) ∙ t.1);
        stands = λ q p e. let st = w.placed.nodes_in.stands q p (ap node_place (sym (slot q)) ∙ e) in record { id = st.id; is = st.is; there = place p ∙ st.there };
      };
      keys_in = record {
        told = λ p id e. let t = w.placed.keys_in.told p id e in (ap key_place (slot id.at) ∙ t.0, ap is_some (get_same id.at) ∙ t.1);
        stands = λ q p e. w.placed.keys_in.stands q p (ap key_place (sym (slot q)) ∙ e);
      };
    };
    unmarked = λ q m. w.unmarked q (sym (get_same q) ∙ m);
    reads = λ k e f. subst IsNode (sym (slot e.reader.at)) (w.reads k e (ap (find k) (sym edges) ∙ f));
    once = λ q r u v a b e. w.once q r u v (sym (slot q) ∙ a) (sym (slot r) ∙ b) e;
  }

-- entries see the slots of live vertices alone
module _ (slots slots2 : List Slot) (edges : List Entry) where
  pub reads_live : (q : ℕ) (es : List Entry) → ((e : Entry) → Has es e → slot_at slots2 e.read.at ≡ slot_at slots e.read.at) → sources_at slots2 q es ≡ sources_at slots q es
  reads_live q [] h = refl
  reads_live q (e ∷ es) h =
      let a : slot_at slots2 e.read.at ≡ slot_at slots e.read.at = h e (inl refl) in
      let b : sources_at slots2 q es ≡ sources_at slots q es = reads_live q es (λ f i. h f (inr i)) in
      ap (λ s. cond (eqb e.reader.at q) (source_in e.read.at s ∷ sources_at slots2 q es) (sources_at slots2 q es)) a
      ∙ ap (λ rs. cond (eqb e.reader.at q) (source_in e.read.at (slot_at slots e.read.at) ∷ rs) rs) b

  pub kept_live : ((e : Entry) → Has edges e → slot_at slots2 e.read.at ≡ slot_at slots e.read.at) → (stamp : ℕ) (id : NodeId) → slot_at slots2 id.at ≡ slot_at slots id.at → kept edges slots2 stamp id ≡ kept edges slots stamp id
  kept_live h stamp id a =
      ap (λ (s : Slot). record { stamp = stamp; id = id.at; body = body_of s; sources = own_key (body_of s).node ++ sources_at slots2 id.at edges }) a
      ∙ ap (λ (rs : List Source). record { stamp = stamp; id = id.at; body = body_of (slot_at slots id.at); sources = own_key (body_of (slot_at slots id.at)).node ++ rs }) (reads_live id.at edges h)

  pub entries_live : ((e : Entry) → Has edges e → slot_at slots2 e.read.at ≡ slot_at slots e.read.at) → (p : ℕ) (list : List (Option NodeId)) → ((id : NodeId) → Has list (Some id) → slot_at slots2 id.at ≡ slot_at slots id.at) → entries edges slots2 p list ≡ entries edges slots p list
  entries_live h p [] k = refl
  entries_live h p (None ∷ list) k = entries_live h (p + 1) list (λ id i. k id (inr i))
  entries_live h p (Some id ∷ list) k =
      let a : kept edges slots2 (p + 1) id ≡ kept edges slots (p + 1) id = kept_live h (p + 1) id (k id (inl refl)) in
      let b : entries edges slots2 (p + 1) list ≡ entries edges slots (p + 1) list = entries_live h (p + 1) list (λ id i. k id (inr i)) in
      ap (λ (r : Kept). r ∷ entries edges slots2 (p + 1) list) a ∙ ap (λ (rs : List Kept). kept edges slots (p + 1) id ∷ rs) b

pub entries_none : (edges : List Entry) (slots : List Slot) (p : ℕ) (list : List (Option NodeId)) → entries edges slots p (list ++ None ∷ []) ≡ entries edges slots p list
entries_none edges slots p [] = refl
entries_none edges slots p (None ∷ list) = entries_none edges slots (p + 1) list
entries_none edges slots p (Some id ∷ list) = ap (λ (rs : List Kept). kept edges slots (p + 1) id ∷ rs) (entries_none edges slots (p + 1) list)

pub entries_push : (edges : List Entry) (slots : List Slot) (p : ℕ) (list : List (Option NodeId)) (id : NodeId) → entries edges slots p (list ++ Some id ∷ []) ≡ entries edges slots p list ++ kept edges slots (p + length list + 1) id ∷ []
entries_push edges slots p [] id = ap (λ n. kept edges slots n id ∷ []) (omega arith)
entries_push edges slots p (None ∷ list) id = entries_push edges slots (p + 1) list id ∙ ap (λ n. entries edges slots (p + 1) list ++ kept edges slots n id ∷ []) (omega arith)
entries_push edges slots p (Some j ∷ list) id =
    ap (λ (rs : List Kept). kept edges slots (p + 1) j ∷ rs) (entries_push edges slots (p + 1) list id ∙ ap (λ n. entries edges slots (p + 1) list ++ kept edges slots n id ∷ []) (omega arith))

pub no_reads : (slots : List Slot) (q : ℕ) (es : List Entry) → ((e : Entry) → Has es e → e.reader.at ≡ q → ⊥) → sources_at slots q es ≡ []
no_reads slots q [] h = refl
no_reads slots q (e ∷ es) h =
    elim (eqb e.reader.at q) as (λ b. eqb e.reader.at q ≡ b → cond b (source_in e.read.at (slot_at slots e.read.at) ∷ sources_at slots q es) (sources_at slots q es) ≡ []) [
      | true ↦ λ t. absurd (h e (inl refl) (eqb-true e.reader.at q t))
      | false ↦ λ t. no_reads slots q es (λ f i. h f (inr i))
    ] refl

pub put_last : (list : List (Option NodeId)) (id : NodeId) → set (list ++ None ∷ []) (length list) (Some id) ≡ list ++ Some id ∷ []
put_last list id = set_at list None [] (Some id) (length list) refl

-- a new vertex, for a held node, stands at the last place
module _ (g h : Graph) (slots slots2 : List Slot) (order keys : List (Option NodeId)) (id : NodeId) (held : Held) (relation : IsRelation g) (w : IsWhole g slots order keys)
    (fresh : map.get g.nodes id.at ≡ None) (nodes : h.nodes ≡ map.insert g.nodes id.at false) (edges : h.edges ≡ g.edges)
    (slot : (q : ℕ) → slot_at slots2 q ≡ cond (eqb id.at q) (Node held) (slot_at slots q)) (last : held.place ≡ length order) where
  get_new : (q : ℕ) → map.get h.nodes q ≡ cond (eq_by_cmp nat_cmp q id.at) (Some false) (map.get g.nodes q)
  get_new q = ap (λ (m : Nodes). map.get m q) nodes ∙ map.get-insert nat_cmp_total g.nodes id.at false q

  get_here : map.get h.nodes id.at ≡ Some false
  get_here = let t : eq_by_cmp nat_cmp id.at id.at ≡ true = grind (arith, nat_tests) in get_new id.at ∙ ap (λ b. cond b (Some false) (map.get g.nodes id.at)) t

  get_other : (q : ℕ) → (id.at ≡ q → ⊥) → map.get h.nodes q ≡ map.get g.nodes q
  get_other q n =
      let m : q ≡ id.at → ⊥ = λ e. n (sym e) in
      let t : eq_by_cmp nat_cmp q id.at ≡ false = grind (arith, nat_tests) in
      get_new q ∙ ap (λ b. cond b (Some false) (map.get g.nodes q)) t

  slot_here : slot_at slots2 id.at ≡ Node held
  slot_here = slot id.at ∙ ap (λ b. cond b (Node held) (slot_at slots id.at)) (eq-eqb id.at id.at refl)

  slot_other : (q : ℕ) → (id.at ≡ q → ⊥) → slot_at slots2 q ≡ slot_at slots q
  slot_other q n = slot q ∙ elim (eqb id.at q) as (λ b. eqb id.at q ≡ b → cond b (Node held) (slot_at slots q) ≡ slot_at slots q) [ true ↦ λ e. absurd (n (eqb-true id.at q e)) | false ↦ λ e. refl ] refl

  live_other : (q : ℕ) → IsSome (map.get g.nodes q) → id.at ≡ q → ⊥
  live_other q l e = let none : map.get g.nodes q ≡ None = ap (λ k. map.get g.nodes k) (sym e) ∙ fresh in let no : false ≡ true = sym (ap is_some none) ∙ l in cc

  -- the slot was free
  free : (q : ℕ) (place : Slot → Option ℕ) (list : List (Option NodeId)) (p : ℕ) → IsPlacedIn place g.nodes slots list → place (slot_at slots q) ≡ Some p → id.at ≡ q → ⊥
  free q place list p in_list e s =
      let st = in_list.stands q p e in
      live_other st.id.at (in_list.told p st.id st.there).1 (s ∙ sym st.is)

  at_new : (p : ℕ) (o : Option NodeId) → at (order ++ Some id ∷ []) p ≡ o → (at order p ≡ o) ⊎ ((p ≡ length order) × (o ≡ Some id))
  at_new p o e = by order p e
    where
      by : (list : List (Option NodeId)) (k : ℕ) → at (list ++ Some id ∷ []) k ≡ o → (at list k ≡ o) ⊎ ((k ≡ length list) × (o ≡ Some id))
      by [] zero e = inr (refl, sym e)
      by [] (suc k) e = inl (get_or_past {X = Option NodeId} [] (suc k) None (omega arith) ∙ sym (get_or_past {X = Option NodeId} (Some id ∷ []) (suc k) None (omega arith)) ∙ e)
      by (x ∷ list) zero e = inl e
      by (x ∷ list) (suc k) e = elim (by list k e) [ inl a ↦ inl a | inr a ↦ inr (let n = a.0 in omega arith, a.1) ]

  at_old : (p : ℕ) (j : NodeId) → at order p ≡ Some j → at (order ++ Some id ∷ []) p ≡ Some j
  at_old p j e = get_or_append_left order (Some id ∷ []) None p (at_below order p j e) ∙ e

  old_key : (q : ℕ) (u : Watched) → slot_at slots2 q ≡ Watch u → slot_at slots q ≡ Watch u
  old_key q u a =
      elim (same_or id.at q) [
        | inl s ↦ let no : Node held ≡ Watch u = sym slot_here ∙ ap (slot_at slots2) s ∙ a in cc
        | inr n ↦ sym (slot_other q n) ∙ a
      ]

  pub put_whole : IsWhole h slots2 (order ++ Some id ∷ []) keys
  put_whole = record {
    placed = record {
      live = λ q l f.
          elim (same_or id.at q) [
            | inl e ↦ let no : Node held ≡ Free = sym slot_here ∙ ap (slot_at slots2) e ∙ f in cc
            | inr n ↦ w.placed.live q (ap is_some (sym (get_other q n)) ∙ l) (sym (slot_other q n) ∙ f)
          ];
      nodes_in = record {
        told = λ p j e.
            elim (at_new p (Some j) e) [
              | inl a ↦
                  let t = w.placed.nodes_in.told p j a in
                  let n = live_other j.at t.1 in
                  (ap node_place (slot_other j.at n) ∙ t.0, ap is_some (get_other j.at n) ∙ t.1)
              | inr a ↦
                  let s : j ≡ id = let b = a.1 in cc in
                  let l : length order ≡ p = sym a.0 in
                  (ap (λ (k : NodeId). node_place (slot_at slots2 k.at)) s ∙ ap node_place slot_here ∙ ap Some (last ∙ l), ap (λ (k : NodeId). is_some (map.get h.nodes k.at)) s ∙ ap is_some get_here)
            ];
        stands = λ q p e.
            elim (same_or id.at q) [
              | inl s ↦
                  let same : Some held.place ≡ Some p = ap node_place (sym slot_here) ∙ ap (λ k. node_place (slot_at slots2 k)) s ∙ e in
                  let place : length order ≡ p = let l = last in cc in
                  record { id = id; is = s; there = get_or_push order (Some id) None p place }
              | inr n ↦
                  let st = w.placed.nodes_in.stands q p (ap node_place (sym (slot_other q n)) ∙ e) in
                  record { id = st.id; is = st.is; there = at_old p st.id st.there }
            ];
      };
      keys_in = record {
        told = λ p j e.
            let t = w.placed.keys_in.told p j e in
            let n = live_other j.at t.1 in
            (ap key_place (slot_other j.at n) ∙ t.0, ap is_some (get_other j.at n) ∙ t.1);
        stands = λ q p e.
            elim (same_or id.at q) [
              | inl s ↦ let none : None ≡ Some p = ap key_place (sym slot_here) ∙ ap (λ k. key_place (slot_at slots2 k)) s ∙ e in cc
              | inr n ↦ w.placed.keys_in.stands q p (ap key_place (sym (slot_other q n)) ∙ e)
            ];
      };
    };
    unmarked = λ q m.
        elim (same_or id.at q) [
          | inl s ↦ let no : Some false ≡ Some true = sym get_here ∙ ap (λ k. map.get h.nodes k) s ∙ m in cc
          | inr n ↦ w.unmarked q (sym (get_other q n) ∙ m)
        ];
    reads = λ k e f.
        let f2 : find k g.edges ≡ Some e = ap (find k) (sym edges) ∙ f in
        subst IsNode (sym (slot_other e.reader.at (live_other e.reader.at (relation.between k e f2).0))) (w.reads k e f2);
    once = λ q r u v a b e. w.once q r u v (old_key q u a) (old_key r v b) e;
  }

  pub put_entries : entries h.edges slots2 0 (order ++ Some id ∷ []) ≡ entries g.edges slots 0 order ++ record { stamp = length order + 1; id = id.at; body = held.body; sources = own_key held.body.node } ∷ []
  put_entries =
      let same : entries g.edges slots2 0 order ≡ entries g.edges slots 0 order
      = entries_live slots slots2 g.edges (λ e i. slot_other e.read.at (live_other e.read.at (relation.between e.id.at e (has_find g.edges relation.apart e i)).1)) 0 order
      (λ j i. let p = at_has order j i in slot_other j.at (live_other j.at (w.placed.nodes_in.told p.0 j p.1).1)) in
      let none : sources_at slots2 id.at g.edges ≡ [] = no_reads slots2 id.at g.edges (λ e i s. live_other e.reader.at (relation.between e.id.at e (has_find g.edges relation.apart e i)).0 (sym s)) in
      let stamp : 0 + length order + 1 ≡ length order + 1 = omega arith in
      ap (λ (es : List Entry). entries es slots2 0 (order ++ Some id ∷ [])) edges
      ∙ entries_push g.edges slots2 0 order id
      ∙ ap (λ (rs : List Kept). rs ++ kept g.edges slots2 (0 + length order + 1) id ∷ []) same
      ∙ ap (λ n. entries g.edges slots 0 order ++ kept g.edges slots2 n id ∷ []) stamp
      ∙ ap (λ (s : Slot). entries g.edges slots 0 order ++ record { stamp = length order + 1; id = id.at; body = body_of s; sources = own_key (body_of s).node ++ sources_at slots2 id.at g.edges } ∷ []) slot_here
      ∙ ap (λ (rs : List Source). entries g.edges slots 0 order ++ record { stamp = length order + 1; id = id.at; body = held.body; sources = own_key held.body.node ++ rs } ∷ []) none
      ∙ ap (λ (rs : List Source). entries g.edges slots 0 order ++ record { stamp = length order + 1; id = id.at; body = held.body; sources = rs } ∷ []) (append-nil (own_key held.body.node))

-- the same entries where nothing is seen
pub entries_same : (es fs : List Entry) (slots slots2 : List Slot) (order : List (Option NodeId)) → fs ≡ es → ((q : ℕ) → slot_at slots2 q ≡ slot_at slots q) → entries fs slots2 0 order ≡ entries es slots 0 order
entries_same es fs slots slots2 order e s = ap (λ (xs : List Entry). entries xs slots2 0 order) e ∙ entries_live slots slots2 es (λ f i. s f.read.at) 0 order (λ j i. s j.at)

pub relation_same : (g h : Graph) → h.nodes ≡ g.nodes → h.edges ≡ g.edges → IsRelation g → IsRelation h
relation_same g h n e r = record {
  apart = subst IsApart (sym e) r.apart;
  between = λ k x f.
      let b = r.between k x (ap (find k) (sym e) ∙ f) in
      (subst (λ (m : Nodes). IsSome (map.get m x.reader.at)) (sym n) b.0, subst (λ (m : Nodes). IsSome (map.get m x.read.at)) (sym n) b.1);
}
