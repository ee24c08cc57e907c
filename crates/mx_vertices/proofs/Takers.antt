-- The held nodes whose runs took something from elsewhere.
use Rattle.std.proofs.Common.{◌≡◌, ◌∙◌, ℕ, Bool, true, false, cond, List, [], ◌∷◌, ◌++◌, map as map_list, Option, Some, refl, sym, ap, subst, ◌⊎◌, inl, inr}
use Rattle.std.specs.Prelude.{filter, ◌↔◌}
use Rattle.std.proofs.lemmas.Bool.{eqb-true, eq-eqb}
use Rattle.mx_graph.specs.declared.ids.NodeId.{NodeId}
use Rattle.mx_graph.specs.Relation.{Entry, Graph, IsRelation, by_read}
use Rattle.mx_edit.specs.declared.key.Key.{Key}
use Rattle.mx_edit.specs.declared.key.Key.TheVariants.{Input}
use Rattle.mx_vertices.specs.declared.slot.Held.{Held}
use Rattle.mx_vertices.specs.declared.slot.Slot.{Slot}
use Rattle.mx_vertices.specs.declared.slot.Slot.TheVariants.{Free, Node, Watch}
use Rattle.mx_vertices.specs.Inputs.{is_static}
use Rattle.mx_vertices.specs.Places.{slot_at, node_place, Has}
use Rattle.mx_vertices.specs.Found.{node_at}
use Rattle.mx_vertices.specs.Kept.{Kept, Source, looked, asked, own_key, body_of, source_in, sources_at, kept, entries, IsNode, IsWhole}
use Rattle.mx_vertices.specs.Reading.{id_at, entry_reader, readers_in, IsOwnKeyAt, AreKeyReaders, DidTake, AreTakers}
use Rattle.mx_vertices.proofs.Edges.{has_find, filter_has}
use Rattle.mx_vertices.proofs.Touching.{read_edge, edge_read, entry_at, at_entry, key_read, node_read, has_behind, asked_behind, looked_either, own_looked}
use Rattle.mx_vertices.proofs.Reading.{held_kept, read_of_node}

has_reader : (es : List Entry) (e : Entry) → Has es e → Has (map_list id_at (map_list entry_reader es)) e.reader.at
has_reader [] e h = h
has_reader (x ∷ es) e h = elim h [ inl s ↦ inl (ap (λ (y : Entry). y.reader.at) s) | inr i ↦ inr (has_reader es e i) ]

reader_of : (es : List Entry) (n : ℕ) → Has (map_list id_at (map_list entry_reader es)) n → (e : Entry) × Has es e × (e.reader.at ≡ n)
reader_of [] n h = absurd h
reader_of (x ∷ es) n h = elim h [ inl s ↦ (x, inl refl, s) | inr i ↦ let f = reader_of es n i in (f.0, inr f.1, f.2) ]

filter_in : (p : Entry → Bool) (es : List Entry) (e : Entry) → Has es e → p e ≡ true → Has (filter p es) e
filter_in p [] e h t = h
filter_in p (x ∷ es) e h t =
    elim (p x) as (λ b. p x ≡ b → Has (cond b (x ∷ filter p es) (filter p es)) e) [
      | true ↦ λ y. elim h [ inl s ↦ inl s | inr i ↦ inr (filter_in p es e i t) ]
      | false ↦ λ y. elim h [ inl s ↦ let no : false ≡ true = sym y ∙ ap p s ∙ t in cc | inr i ↦ filter_in p es e i t ]
    ] refl

has_either : (xs ys : List NodeId) (n : ℕ) → Has (map_list id_at (xs ++ ys)) n → Has (map_list id_at xs) n ⊎ Has (map_list id_at ys) n
has_either [] ys n h = inr h
has_either (x ∷ xs) ys n h = elim h [ inl e ↦ inl (inl e) | inr i ↦ elim (has_either xs ys n i) [ inl a ↦ inl (inr a) | inr a ↦ inr a ] ]

has_read : (xs ys : List NodeId) (n : ℕ) → Has (map_list id_at xs) n → Has (map_list id_at (xs ++ ys)) n
has_read [] ys n h = absurd h
has_read (x ∷ xs) ys n h = elim h [ inl e ↦ inl e | inr i ↦ inr (has_read xs ys n i) ]

has_own : (xs ys : List NodeId) (n : ℕ) → Has (map_list id_at ys) n → Has (map_list id_at (xs ++ ys)) n
has_own [] ys n h = h
has_own (x ∷ xs) ys n h = inr (has_own xs ys n h)

module _ (g : Graph) (slots : List Slot) (order keys : List (Option NodeId)) (whole : IsWhole g slots order keys) (relation : IsRelation g) where
  abbrev pub held : List Kept
  held = entries g.edges slots 0 order

  -- the edges by which held nodes took it
  abbrev ByEdge : Source → ℕ → Type 0
  ByEdge r id = (e : Entry) × Has g.edges e × (e.reader.at ≡ id) × (source_in e.read.at (slot_at slots e.read.at) ≡ r)

  edge_of : (r : Source) (id : NodeId) → Has (sources_at slots id.at g.edges) r → ByEdge r id.at
  edge_of r id h = let f = read_edge slots id.at g.edges r h in (f.edge, f.among, f.reader, f.is)

  asked_edge : (m id : ℕ) → DidTake held (asked m) id → ByEdge (asked m) id
  asked_edge m id d =
      let i = entry_at g.edges slots 0 order d.entry d.among in
      subst (ByEdge (asked m)) (ap (λ (k : Kept). k.id) i.is ∙ d.id_is)
      (edge_of (asked m) i.id (asked_behind (node_at slots i.id.at) (sources_at slots i.id.at g.edges) m (subst (λ (k : Kept). Has k.sources (asked m)) (sym i.is) d.takes)))

  -- who reads a vertex took it
  reader_took : (v : NodeId) (r : Source) → source_in v.at (slot_at slots v.at) ≡ r → (id : ℕ) → Has (map_list id_at (readers_in v g.edges)) id → DidTake held r id
  reader_took v r is id h =
      let b = reader_of (filter (by_read v) g.edges) id h in
      let f = filter_has (by_read v) g.edges b.0 b.1 in
      let node : IsNode (slot_at slots b.0.reader.at) = whole.reads b.0.id.at b.0 (has_find g.edges relation.apart b.0 f.0) in
      let k = held_kept g slots order keys whole b.0.reader.at node in
      let read : b.0.read.at ≡ v.at = eqb-true b.0.read.at v.at f.1 in
      record {
        entry = kept g.edges slots k.0 k.1;
        among = k.2;
        id_is = k.3 ∙ b.2;
        takes = has_behind (own_key (node_at slots k.1.at)) (sources_at slots k.1.at g.edges) r (subst (λ (s : Source). Has (sources_at slots k.1.at g.edges) s) (ap (λ n. source_in n (slot_at slots n)) read ∙ is) (edge_read slots k.1.at g.edges b.0 f.0 (sym k.3)));
      }

  -- who took it by an edge reads its vertex
  took_reader : (v : NodeId) (r : Source) → ((q : ℕ) → source_in q (slot_at slots q) ≡ r → q ≡ v.at) → (id : ℕ) → ByEdge r id → Has (map_list id_at (readers_in v g.edges)) id
  took_reader v r only id e =
      subst (λ n. Has (map_list id_at (readers_in v g.edges)) n) e.2
      (has_reader (filter (by_read v) g.edges) e.0 (filter_in (by_read v) g.edges e.0 e.1 (eq-eqb e.0.read.at v.at (only e.0.read.at e.3))))

  pub node_takers : (v : NodeId) → IsNode (slot_at slots v.at) → AreTakers held (asked v.at) (readers_in v g.edges)
  node_takers v n id = (
    reader_took v (asked v.at) (read_of_node v.at (slot_at slots v.at) n) id,
    λ d. took_reader v (asked v.at) (λ q e. node_read q (slot_at slots q) v.at e) id (asked_edge v.at id d),
  )

  -- a held static node looked up the key of its own input
  own_took : (key : Key) (id : ℕ) → IsOwnKeyAt slots id key → DidTake held (looked key) id
  own_took key id o =
      let st = whole.placed.nodes_in.stands id o.held.place (ap node_place o.slot) in
      let f = at_entry g.edges slots 0 order o.held.place st.id st.there in
      let n : node_at slots st.id.at ≡ o.held.body.node = ap (node_at slots) st.is ∙ ap (λ (s : Slot). (body_of s).node) o.slot in
      record {
        entry = kept g.edges slots f.stamp st.id;
        among = f.among;
        id_is = st.is;
        takes = subst (λ k. Has (own_key (node_at slots st.id.at) ++ sources_at slots st.id.at g.edges) (looked k)) (ap Input n ∙ o.is) (own_looked (node_at slots st.id.at) (sources_at slots st.id.at g.edges) (ap is_static n ∙ o.own));
      }

  node_slot : (q p : ℕ) (t : Slot) → slot_at slots q ≡ t → node_place t ≡ Some p → (h : Held) × (slot_at slots q ≡ Node h)
  node_slot q p Free e n = cc
  node_slot q p (Watch w) e n = cc
  node_slot q p (Node h) e n = (h, e)

  -- who looked a key up did so by an edge, or it is the key of its own input
  took_key : (key : Key) (id : ℕ) → DidTake held (looked key) id → IsOwnKeyAt slots id key ⊎ ByEdge (looked key) id
  took_key key id d =
      let i = entry_at g.edges slots 0 order d.entry d.among in
      let same : i.id.at ≡ id = ap (λ (k : Kept). k.id) i.is ∙ d.id_is in
      elim (looked_either (node_at slots i.id.at) (sources_at slots i.id.at g.edges) key (subst (λ (k : Kept). Has k.sources (looked key)) (sym i.is) d.takes)) [
        | inl own ↦
            let s = node_slot i.id.at i.place (slot_at slots i.id.at) refl (whole.placed.nodes_in.told i.place i.id i.there).0 in
            let n : s.0.body.node ≡ node_at slots i.id.at = ap (λ (s : Slot). (body_of s).node) (sym s.1) in
            inl (subst (λ q. IsOwnKeyAt slots q key) same (record { held = s.0; slot = s.1; own = ap is_static n ∙ own.0; is = ap Input n ∙ own.1 }))
        | inr among ↦ inr (subst (ByEdge (looked key)) same (edge_of (looked key) i.id among))
      ]

  -- the readers of a key's vertex, and the node whose own input it is
  pub key_takers : (key : Key) (ids own : List NodeId) → AreKeyReaders slots g.edges key ids → ((q : ℕ) → IsOwnKeyAt slots q key ↔ Has (map_list id_at own) q) → AreTakers held (looked key) (ids ++ own)
  key_takers key ids own are owns id = (
    λ h. elim (has_either ids own id h) [
      | inl a ↦ elim are [
        | inl k ↦
            reader_took k.0 (looked key) (ap (source_in k.0.at) k.1.slot ∙ ap looked k.1.is) id (subst (λ (xs : List NodeId). Has (map_list id_at xs) id) k.2 a)
        | inr none ↦ absurd (subst (λ (xs : List NodeId). Has (map_list id_at xs) id) none.1 a)
      ]
      | inr a ↦ own_took key id ((owns id).1 a)
    ],
    λ d. elim (took_key key id d) [
      | inl o ↦ has_own ids own id ((owns id).0 o)
      | inr e ↦
          let w = key_read e.0.read.at (slot_at slots e.0.read.at) key e.3 in
          elim are [
            | inl k ↦
                has_read ids own id (subst (λ (xs : List NodeId). Has (map_list id_at xs) id) (sym k.2)
                (took_reader k.0 (looked key) (λ q e. let w = key_read q (slot_at slots q) key e in whole.once q k.0.at w.0 k.1.watched w.1 k.1.slot (w.2 ∙ sym k.1.is)) id e))
            | inr none ↦ absurd (none.0 e.0.read.at (record { watched = w.0; slot = w.1; is = w.2 }))
          ]
    ],
  )
