-- What a sweep leaves of a memo, where marks are closed.
use Rattle.std.proofs.Common.{◌≡◌, ◌∙◌, ℕ, ◌+◌, Bool, true, false, cond, eqb, List, [], ◌∷◌, ◌++◌, length, Option, Some, None, is_some, map as map_list, refl, sym, ap, subst, arith, inl, inr}
use Rattle.std.proofs.lemmas.List.{get_or_past}
use Rattle.std.specs.Prelude.{◌↔◌, IsSome, filter}
use Rattle.std.specs.Ordering.{nat_cmp}
use Rattle.std.specs.FinMap as map
use Rattle.std.proofs.lemmas.Bool.{eqb-true}
use Rattle.mx_graph.specs.declared.ids.NodeId.{NodeId}
use Rattle.mx_graph.specs.Relation.{Entry, Graph, IsRelation, no_graph, find, is_kept, is_marked_in}
use Rattle.mx_vertices.specs.declared.slot.Slot.{Slot}
use Rattle.mx_vertices.specs.declared.slot.Watched.{Watched}
use Rattle.mx_vertices.specs.declared.slot.Slot.TheVariants.{Free, Watch}
use Rattle.mx_vertices.specs.Places.{slot_at, node_place, key_place, at, IsPlaced, if_live, held_in, Has}
use Rattle.mx_vertices.specs.Kept.{Kept, Source, own_key, sources_at, source_in, kept, entries, body_of, IsNode, IsWhole, Sifts, Done, Keeps, Drops}
use Rattle.mx_vertices.proofs.Places.{Nodes, at_has, if_live_same, if_live_gone}
use Rattle.mx_vertices.proofs.Edges.{find_has, has_find, filter_has, marked_test, test_marked, both_unmarked, kept_unmarked}

-- an id of the list stands at some place of the order
abbrev pub AreIn : List (Option NodeId) → List (Option NodeId) → Type 0
AreIn list order = (id : NodeId) → Has list (Some id) → (p : ℕ) × (at order p ≡ Some id)

-- what a marking and a sweep did
pub record IsDropped (g marked left : Graph) (slots slots2 : List Slot) (order order2 : List (Option NodeId)) : Type 0 where
  pub relation : IsRelation g
  pub live : (q : ℕ) → IsSome (map.get marked.nodes q) ↔ IsSome (map.get g.nodes q)
  pub closed : (k : ℕ) (e : Entry) → find k g.edges ≡ Some e → map.get marked.nodes e.read.at ≡ Some true → map.get marked.nodes e.reader.at ≡ Some true
  pub nodes : (q : ℕ) → map.get left.nodes q ≡ cond (is_marked_in marked.nodes q) None (map.get marked.nodes q)
  pub edges : left.edges ≡ filter (is_kept marked.nodes) g.edges
  pub slots_are : (q : ℕ) → slot_at slots2 q ≡ cond (is_marked_in marked.nodes q) Free (slot_at slots q)
  pub order_is : order2 ≡ map_list (if_live left.nodes) order

module _ (g marked left : Graph) (slots slots2 : List Slot) (order order2 keys keys2 : List (Option NodeId)) (whole : IsWhole g slots order keys) (d : IsDropped g marked left slots slots2 order order2) where
  slot_same : (q : ℕ) → is_marked_in marked.nodes q ≡ false → slot_at slots2 q ≡ slot_at slots q
  slot_same q n = d.slots_are q ∙ ap (λ b. cond b Free (slot_at slots q)) n

  reads_same : (q : ℕ) (es : List Entry) → ((e : Entry) → Has es e → e.reader.at ≡ q → (is_marked_in marked.nodes e.reader.at ≡ false) × (is_marked_in marked.nodes e.read.at ≡ false)) → sources_at slots2 q (filter (is_kept marked.nodes) es) ≡ sources_at slots q es
  reads_same q [] h = refl
  reads_same q (e ∷ es) h =
      elim (eqb e.reader.at q) as (λ b. eqb e.reader.at q ≡ b → sources_at slots2 q (filter (is_kept marked.nodes) (e ∷ es)) ≡ cond b (source_in e.read.at (slot_at slots e.read.at) ∷ sources_at slots q es) (sources_at slots q es)) [
        | true ↦ λ t.
            let n = h e (inl refl) (eqb-true e.reader.at q t) in
            ap (λ b. sources_at slots2 q (cond b (e ∷ filter (is_kept marked.nodes) es) (filter (is_kept marked.nodes) es))) (both_unmarked marked.nodes e n.0 n.1)
            ∙ ap (λ b. cond b (source_in e.read.at (slot_at slots2 e.read.at) ∷ sources_at slots2 q (filter (is_kept marked.nodes) es)) (sources_at slots2 q (filter (is_kept marked.nodes) es))) t
            ∙ ap (λ s. source_in e.read.at s ∷ sources_at slots2 q (filter (is_kept marked.nodes) es)) (slot_same e.read.at n.1)
            ∙ ap (λ rs. source_in e.read.at (slot_at slots e.read.at) ∷ rs) (reads_same q es (λ f i. h f (inr i)))
        | false ↦ λ t.
            elim (is_kept marked.nodes e) as (λ b. sources_at slots2 q (cond b (e ∷ filter (is_kept marked.nodes) es) (filter (is_kept marked.nodes) es)) ≡ sources_at slots q es) [
              | true ↦
                  ap (λ b. cond b (source_in e.read.at (slot_at slots2 e.read.at) ∷ sources_at slots2 q (filter (is_kept marked.nodes) es)) (sources_at slots2 q (filter (is_kept marked.nodes) es))) t
                  ∙ reads_same q es (λ f i. h f (inr i))
              | false ↦ reads_same q es (λ f i. h f (inr i))
            ]
      ] refl

  -- what an unmarked node reads is not marked
  unmarked_read : (q : ℕ) → is_marked_in marked.nodes q ≡ false → (e : Entry) → Has g.edges e → e.reader.at ≡ q → (is_marked_in marked.nodes e.reader.at ≡ false) × (is_marked_in marked.nodes e.read.at ≡ false)
  unmarked_read q n e h r =
      let a : is_marked_in marked.nodes e.reader.at ≡ false = ap (is_marked_in marked.nodes) r ∙ n in (
        a,
        elim (is_marked_in marked.nodes e.read.at) as (λ b. is_marked_in marked.nodes e.read.at ≡ b → b ≡ false) [
          | true ↦ λ t. let m = marked_test marked.nodes e.reader.at (d.closed e.id.at e (has_find g.edges d.relation.apart e h) (test_marked marked.nodes e.read.at t)) in cc
          | false ↦ λ t. refl
        ] refl,
      )

  kept_same : (stamp : ℕ) (id : NodeId) → is_marked_in marked.nodes id.at ≡ false → kept left.edges slots2 stamp id ≡ kept g.edges slots stamp id
  kept_same stamp id n =
      let a : slot_at slots2 id.at ≡ slot_at slots id.at = slot_same id.at n in
      let b : sources_at slots2 id.at left.edges ≡ sources_at slots id.at g.edges = ap (sources_at slots2 id.at) d.edges ∙ reads_same id.at g.edges (unmarked_read id.at n) in
      ap (λ (s : Slot). record { stamp = stamp; id = id.at; body = body_of s; sources = own_key (body_of s).node ++ sources_at slots2 id.at left.edges }) a
      ∙ ap (λ (rs : List Source). record { stamp = stamp; id = id.at; body = body_of (slot_at slots id.at); sources = own_key (body_of (slot_at slots id.at)).node ++ rs }) b

  module _ (Out : ℕ → Type 0) (outs : (p : ℕ) (id : NodeId) → at order p ≡ Some id → map.get marked.nodes id.at ≡ Some true → Out id.at) (ins : (q : ℕ) → Out q → map.get marked.nodes q ≡ Some true) where
    sift : (p : ℕ) (list : List (Option NodeId)) → AreIn list order → Sifts Out (entries g.edges slots p list) (entries left.edges slots2 p (map_list (if_live left.nodes) list))
    sift p [] h = Done
    sift p (None ∷ list) h = sift (p + 1) list (λ id i. h id (inr i))
    sift p (Some id ∷ list) h =
        let f = h id (inl refl) in
        let more : Sifts Out (entries g.edges slots (p + 1) list) (entries left.edges slots2 (p + 1) (map_list (if_live left.nodes) list)) = sift (p + 1) list (λ id i. h id (inr i)) in
        elim (is_marked_in marked.nodes id.at) as (λ b. is_marked_in marked.nodes id.at ≡ b → Sifts Out (entries g.edges slots p (Some id ∷ list)) (entries left.edges slots2 p (map_list (if_live left.nodes) (Some id ∷ list)))) [
          | true ↦ λ t.
              let gone : if_live left.nodes (Some id) ≡ None = if_live_gone left.nodes id (d.nodes id.at ∙ ap (λ b. cond b None (map.get marked.nodes id.at)) t) in
              subst (λ o. Sifts Out (entries g.edges slots p (Some id ∷ list)) (entries left.edges slots2 p (o ∷ map_list (if_live left.nodes) list))) (sym gone)
              (Drops (kept g.edges slots (p + 1) id) (entries g.edges slots (p + 1) list) (entries left.edges slots2 (p + 1) (map_list (if_live left.nodes) list)) (outs f.0 id f.1 (test_marked marked.nodes id.at t)) more)
          | false ↦ λ t.
              let there : IsSome (map.get left.nodes id.at) = ap is_some (d.nodes id.at ∙ ap (λ b. cond b None (map.get marked.nodes id.at)) t) ∙ (d.live id.at).1 (whole.placed.nodes_in.told f.0 id f.1).1 in
              let stays : if_live left.nodes (Some id) ≡ Some id = if_live_same left.nodes id there in
              subst (λ o. Sifts Out (entries g.edges slots p (Some id ∷ list)) (entries left.edges slots2 p (o ∷ map_list (if_live left.nodes) list))) (sym stays)
              (subst (λ (r : Kept). Sifts Out (entries g.edges slots p (Some id ∷ list)) (r ∷ entries left.edges slots2 (p + 1) (map_list (if_live left.nodes) list))) (sym (kept_same (p + 1) id t))
              (Keeps (kept g.edges slots (p + 1) id) (entries g.edges slots (p + 1) list) (entries left.edges slots2 (p + 1) (map_list (if_live left.nodes) list)) (λ o. let m = marked_test marked.nodes id.at (ins id.at o) in let no : true ≡ false = sym m ∙ t in cc) more))
        ] refl

    pub sifted : Sifts Out (entries g.edges slots 0 order) (entries left.edges slots2 0 order2)
    sifted = subst (λ (xs : List (Option NodeId)). Sifts Out (entries g.edges slots 0 order) (entries left.edges slots2 0 xs)) (sym d.order_is) (sift 0 order (at_has order))

  was_key : (q : ℕ) (v : Watched) → slot_at slots2 q ≡ Watch v → slot_at slots q ≡ Watch v
  was_key q v a =
      elim (is_marked_in marked.nodes q) as (λ b. is_marked_in marked.nodes q ≡ b → slot_at slots q ≡ Watch v) [
        | true ↦ λ t. let no : Free ≡ Watch v = sym (d.slots_are q ∙ ap (λ b. cond b Free (slot_at slots q)) t) ∙ a in cc
        | false ↦ λ t. sym (slot_same q t) ∙ a
      ] refl

  pub left_whole : IsPlaced left.nodes slots2 order2 keys2 → IsWhole left slots2 order2 keys2
  left_whole placed = record {
    placed = placed;
    unmarked = λ q m.
        elim (is_marked_in marked.nodes q) as (λ b. is_marked_in marked.nodes q ≡ b → ⊥) [
          | true ↦ λ t. let none : map.get left.nodes q ≡ None = d.nodes q ∙ ap (λ b. cond b None (map.get marked.nodes q)) t in cc
          | false ↦ λ t.
              let same : map.get left.nodes q ≡ map.get marked.nodes q = d.nodes q ∙ ap (λ b. cond b None (map.get marked.nodes q)) t in
              let was = marked_test marked.nodes q (sym same ∙ m) in
              let no : true ≡ false = sym was ∙ t in cc
        ] refl;
    reads = λ k e f.
        let h = filter_has (is_kept marked.nodes) g.edges e (subst (λ (xs : List Entry). Has xs e) d.edges (find_has k left.edges e f)) in
        let n = kept_unmarked marked.nodes e h.1 in
        subst IsNode (sym (slot_same e.reader.at n)) (whole.reads e.id.at e (has_find g.edges d.relation.apart e h.0));
    once = λ q r v w a b e. whole.once q r v w (was_key q v a) (was_key r w b) e;
  }

-- marks change no place
pub placed_live : (old now : Nodes) (slots : List Slot) (order keys : List (Option NodeId)) → ((q : ℕ) → IsSome (map.get now q) ↔ IsSome (map.get old q)) → IsPlaced old slots order keys → IsPlaced now slots order keys
placed_live old now slots order keys live p = record {
  live = λ q h f. p.live q ((live q).0 h) f;
  nodes_in = record { told = λ k id e. let t = p.nodes_in.told k id e in (t.0, (live id.at).1 t.1); stands = p.nodes_in.stands };
  keys_in = record { told = λ k id e. let t = p.keys_in.told k id e in (t.0, (live id.at).1 t.1); stands = p.keys_in.stands };
}

-- nothing is held
pub whole_empty : (g : Graph) (slots : List Slot) (order keys : List (Option NodeId)) → g ≡ no_graph → slots ≡ [] → order ≡ [] → keys ≡ [] → IsWhole g slots order keys
whole_empty g slots order keys a b c d =
    subst (λ (h : Graph). IsWhole h slots order keys) (sym a)
    (subst (λ (xs : List Slot). IsWhole no_graph xs order keys) (sym b)
    (subst (λ (xs : List (Option NodeId)). IsWhole no_graph [] xs keys) (sym c)
    (subst (λ (xs : List (Option NodeId)). IsWhole no_graph [] [] xs) (sym d) empty)))
  where
    nothing : (p : ℕ) (id : NodeId) → at [] p ≡ Some id → ⊥
    nothing p id e = let n : at [] p ≡ None = get_or_past {X = Option NodeId} [] p None (omega arith) in cc

    free : (q : ℕ) → slot_at [] q ≡ Free
    free q = get_or_past {X = Slot} [] q Free (omega arith)

    empty : IsWhole no_graph [] [] []
    empty = record {
      placed = record {
        live = λ q h f. let no : false ≡ true = subst (λ (o : Option Bool). is_some o ≡ true) (map.get-empty {X = Bool} nat_cmp q) h in cc;
        nodes_in = record { told = λ p id e. absurd (nothing p id e); stands = λ q p e. let n : None ≡ Some p = ap node_place (sym (free q)) ∙ e in cc };
        keys_in = record { told = λ p id e. absurd (nothing p id e); stands = λ q p e. let n : None ≡ Some p = ap key_place (sym (free q)) ∙ e in cc };
      };
      unmarked = λ q m. let n : None ≡ Some true = sym (map.get-empty {K = ℕ} {X = Bool} nat_cmp q) ∙ m in cc;
      reads = λ k e f. let n : None ≡ Some e = f in cc;
      once = λ q r v w a b e. let no : Free ≡ Watch v = sym (free q) ∙ a in cc;
    }

-- as many are seen as are counted
pub entries_length : (edges : List Entry) (slots : List Slot) (p : ℕ) (list : List (Option NodeId)) → length (entries edges slots p list) ≡ held_in list
entries_length edges slots p [] = refl
entries_length edges slots p (None ∷ list) = entries_length edges slots (p + 1) list
entries_length edges slots p (Some id ∷ list) = let h = entries_length edges slots (p + 1) list in omega (arith, h)
