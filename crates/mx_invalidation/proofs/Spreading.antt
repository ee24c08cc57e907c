-- Where all that reaches some vertices is marked, marked are exactly the held nodes that pass and those that reach one that does.
use Rattle.std.proofs.Common.{◌≡◌, ◌∙◌, ℕ, ◌+◌, true, List, Option, Some, refl, ap, sym, subst, arith, ◌⊎◌, inl, inr}
use Rattle.std.specs.Prelude.{◌↔◌}
use Rattle.std.specs.FinMap as map
use Rattle.mx_graph.specs.declared.ids.NodeId.{NodeId}
use Rattle.mx_graph.specs.Relation.{Entry, Graph, IsRelation, Reaches, Itself, Through, find}
use Rattle.mx_vertices.specs.declared.slot.Slot.{Slot}
use Rattle.mx_vertices.specs.declared.slot.Watched.{Watched}
use Rattle.mx_vertices.specs.declared.slot.Slot.TheVariants.{Free, Node, Watch}
use Rattle.mx_vertices.specs.Places.{slot_at, node_place, at, Has}
use Rattle.mx_vertices.specs.Kept.{Kept, looked, asked, own_key, body_of, sources_at, source_in, kept, entries, IsNode, IsWhole, IsTouched, Here, ByAsk}
use Rattle.mx_vertices.proofs.Edges.{find_has, has_find}
use Rattle.mx_vertices.proofs.Touching.{read_edge, edge_read, entry_at, at_entry, node_read, asked_behind, has_behind}

-- the vertex q reaches one of these
pub record Spreads (edges : List Entry) (Start : ℕ → Type 0) (q : ℕ) : Type 0 where
  pub start : ℕ
  pub begins : Start start
  pub reaches : Reaches edges start q

-- a start that is said otherwise
pub either : {A B C D : Type 0} → (A ↔ (B ⊎ C)) → (C → D) → (D → C) → A ↔ (B ⊎ D)
either f to back = (λ a. elim (f.0 a) [ inl b ↦ inl b | inr c ↦ inr (to c) ], λ s. elim s [ inl b ↦ f.1 (inl b) | inr d ↦ f.1 (inr (back d)) ])

module _ (g marked : Graph) (slots : List Slot) (order keys : List (Option NodeId)) (whole : IsWhole g slots order keys) (relation : IsRelation g) (Start : ℕ → Type 0)
    (from : (q : ℕ) → (map.get marked.nodes q ≡ Some true) ↔ ((map.get g.nodes q ≡ Some true) ⊎ Spreads g.edges Start q)) where
  abbrev pub held : List Kept
  held = entries g.edges slots 0 order

  spread : (q : ℕ) → Spreads g.edges Start q → map.get marked.nodes q ≡ Some true
  spread q s = (from q).1 (inr s)

  by_spread : (q : ℕ) → map.get marked.nodes q ≡ Some true → Spreads g.edges Start q
  by_spread q m = elim ((from q).0 m) [ inl a ↦ absurd (whole.unmarked q a) | inr a ↦ a ]

  pub closed : (k : ℕ) (e : Entry) → find k g.edges ≡ Some e → map.get marked.nodes e.read.at ≡ Some true → map.get marked.nodes e.reader.at ≡ Some true
  closed k e f m = let a = by_spread e.read.at m in spread e.reader.at (record { start = a.start; begins = a.begins; reaches = Through k e f a.reaches })

  -- a key reads nothing
  key_end : (s q : ℕ) (w : Watched) → slot_at slots q ≡ Watch w → Reaches g.edges s q → s ≡ q
  key_end s q w k Itself = refl
  key_end s q w k (Through n e f more) = absurd (subst IsNode k (whole.reads n e f))

  module _ (passes : Kept → Type 0) (started : (r : Kept) → Has held r → passes r → Spreads g.edges Start r.id)
      (here : (p : ℕ) (id : NodeId) → at order p ≡ Some id → Start id.at → (stamp : ℕ) → stamp ≡ p + 1 → passes (kept g.edges slots stamp id))
      (by_key : (s : ℕ) (w : Watched) → slot_at slots s ≡ Watch w → Start s → (stamp : ℕ) (id : NodeId) → Has held (kept g.edges slots stamp id) → Has (sources_at slots id.at g.edges) (looked w.key) → passes (kept g.edges slots stamp id)) where
    pub touched_marked : (q : ℕ) → IsTouched passes held q → map.get marked.nodes q ≡ Some true
    touched_marked q (Here r h c) = spread r.id (started r h c)
    touched_marked q (ByAsk r h m a t) =
        let i = entry_at g.edges slots 0 order r h in
        let f = read_edge slots i.id.at g.edges (asked m) (asked_behind (body_of (slot_at slots i.id.at)).node (sources_at slots i.id.at g.edges) m (subst (λ (r : Kept). Has r.sources (asked m)) (sym i.is) a)) in
        let n = node_read f.edge.read.at (slot_at slots f.edge.read.at) m f.is in
        subst (λ n. map.get marked.nodes n ≡ Some true) (f.reader ∙ ap (λ (r : Kept). r.id) i.is)
        (closed f.edge.id.at f.edge (has_find g.edges relation.apart f.edge f.among) (subst (λ k. map.get marked.nodes k ≡ Some true) (sym n) (touched_marked m t)))

    -- a node that reads a start, or a node that is touched, is touched
    reader_touched : (s : ℕ) → Start s → (k : ℕ) (e : Entry) → find k g.edges ≡ Some e → Reaches g.edges s e.read.at → (stamp : ℕ) (id : NodeId) → Has held (kept g.edges slots stamp id) → Has (sources_at slots id.at g.edges) (source_in e.read.at (slot_at slots e.read.at))
        → ((p : ℕ) (i : NodeId) → at order p ≡ Some i → i.at ≡ e.read.at → IsTouched passes held e.read.at)
        → (t : Slot) → slot_at slots e.read.at ≡ t → IsTouched passes held id.at
    reader_touched s b k e f more stamp id among read next Free t = absurd (whole.placed.live e.read.at (relation.between k e f).1 t)
    reader_touched s b k e f more stamp id among read next (Watch w) t =
        let same : s ≡ e.read.at = key_end s e.read.at w t more in
        Here (kept g.edges slots stamp id) among
        (by_key e.read.at w t (subst Start same b) stamp id among (subst (λ u. Has (sources_at slots id.at g.edges) (source_in e.read.at u)) t read))
    reader_touched s b k e f more stamp id among read next (Node h) t =
        let st = whole.placed.nodes_in.stands e.read.at h.place (ap node_place t) in
        ByAsk (kept g.edges slots stamp id) among e.read.at (has_behind (own_key (body_of (slot_at slots id.at)).node) (sources_at slots id.at g.edges) (asked e.read.at) (subst (λ u. Has (sources_at slots id.at g.edges) (source_in e.read.at u)) t read)) (next h.place st.id st.there st.is)

    reach_touched : (s : ℕ) → Start s → (q : ℕ) → Reaches g.edges s q → (p : ℕ) (id : NodeId) → at order p ≡ Some id → id.at ≡ q → IsTouched passes held q
    reach_touched s b q Itself p id there is =
        let entry = at_entry g.edges slots 0 order p id there in
        let n = entry.stamp_is in
        subst (λ k. IsTouched passes held k) is (Here (kept g.edges slots entry.stamp id) entry.among (here p id there (subst Start (sym is) b) entry.stamp (omega (arith, n))))
    reach_touched s b q (Through k e f more) p id there is =
        let entry = at_entry g.edges slots 0 order p id there in
        let read = edge_read slots id.at g.edges e (find_has k g.edges e f) (sym is) in
        subst (λ n. IsTouched passes held n) is
        (reader_touched s b k e f more entry.stamp id entry.among read (λ p i there is. reach_touched s b e.read.at more p i there is) (slot_at slots e.read.at) refl)

    pub marked_touched : (p : ℕ) (id : NodeId) → at order p ≡ Some id → map.get marked.nodes id.at ≡ Some true → IsTouched passes held id.at
    marked_touched p id there m = let a = by_spread id.at m in reach_touched a.start a.begins id.at a.reaches p id there refl
