-- The keys that held nodes were held with.
use Rattle.std.proofs.Common.{◌≡◌, ◌∙◌, Bool, true, false, cond, List, [], ◌∷◌, ◌++◌, Option, Some, None, refl, sym, ap, subst, inl, inr}
use Rattle.std.proofs.lemmas.Bool.{eqb-true, eq-eqb}
use Rattle.mx_graph.specs.declared.ids.NodeId.{NodeId}
use Rattle.mx_graph.specs.declared.ids.EdgeId.{EdgeId}
use Rattle.mx_graph.specs.Relation.{Entry, Graph, IsRelation, by_read, first_in}
use Rattle.mx_edit.specs.declared.key.Key.{Key}
use Rattle.mx_vertices.specs.declared.slot.Slot.{Slot}
use Rattle.mx_vertices.specs.declared.slot.Watched.{Watched}
use Rattle.mx_vertices.specs.declared.slot.Slot.TheVariants.{Free, Node, Watch}
use Rattle.mx_vertices.specs.Places.{slot_at, key_place, Has, StandOnce}
use Rattle.mx_vertices.specs.Found.{node_at}
use Rattle.mx_vertices.specs.Kept.{Kept, Source, looked, own_key, source_in, sources_at, kept, entries, IsNode, IsWhole, IsKeyAt}
use Rattle.mx_vertices.specs.Walks.{if_read, keys_read, IsHeldWithKey, StandApart, AreHeldKeys}
use Rattle.mx_vertices.proofs.Edges.{has_find}
use Rattle.mx_vertices.proofs.Touching.{read_edge, edge_read, entry_at, key_read}
use Rattle.mx_vertices.proofs.Reading.{held_kept}
use Rattle.mx_invalidation.proofs.Settling.{has_there}
use Rattle.mx_invalidation.proofs.Settled.{keys_once}

-- the first that passes is one of them, and where one passes there is a first
first_entry : (p : Entry → Bool) (es : List Entry) (i : EdgeId) → first_in p es ≡ Some i → (e : Entry) × Has es e × (p e ≡ true)
first_entry p [] i f = cc
first_entry p (x ∷ es) i f =
    elim (p x) as (λ b. p x ≡ b → cond b (Some x.id) (first_in p es) ≡ Some i → (e : Entry) × Has (x ∷ es) e × (p e ≡ true)) [
      | true ↦ λ t s. (x, inl refl, t)
      | false ↦ λ t s. let r = first_entry p es i s in (r.0, inr r.1, r.2)
    ] refl f

entry_first : (p : Entry → Bool) (es : List Entry) (e : Entry) → Has es e → p e ≡ true → (i : EdgeId) × (first_in p es ≡ Some i)
entry_first p [] e h t = absurd h
entry_first p (x ∷ es) e h t =
    elim (p x) as (λ b. p x ≡ b → (i : EdgeId) × (cond b (Some x.id) (first_in p es) ≡ Some i)) [
      | true ↦ λ y. (x.id, refl)
      | false ↦ λ y. elim h [ inl s ↦ let no : false ≡ true = sym y ∙ ap p s ∙ t in cc | inr i ↦ entry_first p es e i t ]
    ] refl

behind_same : {X : Type 0} (ps xs ys : List X) → ps ++ xs ≡ ps ++ ys → xs ≡ ys
behind_same [] xs ys e = e
behind_same (p ∷ ps) xs ys e = let s : ps ++ xs ≡ ps ++ ys = cc in behind_same ps xs ys s

told_behind : (o : Option EdgeId) (s : Slot) (ks : List Key) (k : Key) → Has ks k → Has (if_read o s ks) k
told_behind None s ks k h = h
told_behind (Some i) Free ks k h = h
told_behind (Some i) (Node n) ks k h = h
told_behind (Some i) (Watch w) ks k h = inr h

module _ (g : Graph) (slots : List Slot) where
  -- the key is that of a vertex of these that is read
  record IsRead (list : List (Option NodeId)) (key : Key) : Type 0 where
    pub id : NodeId
    pub there : Has list (Some id)
    pub is : IsKeyAt slots id.at key
    pub edge : EdgeId
    pub read : first_in (by_read id) g.edges ≡ Some edge

  told_read : (list : List (Option NodeId)) (key : Key) → Has (keys_read g.edges slots list) key → IsRead list key
  told_read [] key h = absurd h
  told_read (None ∷ list) key h = let f = told_read list key h in record { id = f.id; there = inr f.there; is = f.is; edge = f.edge; read = f.read }
  told_read (Some id ∷ list) key h =
      one (λ i. let f = told_read list key i in record { id = f.id; there = inr f.there; is = f.is; edge = f.edge; read = f.read }) (first_in (by_read id) g.edges) (slot_at slots id.at) refl refl h
    where
      one : (Has (keys_read g.edges slots list) key → IsRead (Some id ∷ list) key) → (o : Option EdgeId) (s : Slot) → first_in (by_read id) g.edges ≡ o → slot_at slots id.at ≡ s → Has (if_read o s (keys_read g.edges slots list)) key → IsRead (Some id ∷ list) key
      one behind None s e f h = behind h
      one behind (Some i) Free e f h = behind h
      one behind (Some i) (Node n) e f h = behind h
      one behind (Some i) (Watch w) e f h =
          elim h [
            | inl s ↦ record { id = id; there = inl refl; is = record { watched = w; slot = f; is = s }; edge = i; read = e }
            | inr j ↦ behind j
          ]

  read_told : (list : List (Option NodeId)) (id : NodeId) (w : Watched) (edge : EdgeId) → Has list (Some id) → slot_at slots id.at ≡ Watch w → first_in (by_read id) g.edges ≡ Some edge → Has (keys_read g.edges slots list) w.key
  read_told [] id w edge h s r = absurd h
  read_told (None ∷ list) id w edge h s r = elim h [ inl e ↦ cc | inr i ↦ read_told list id w edge i s r ]
  read_told (Some j ∷ list) id w edge h s r =
      elim h [
        | inl e ↦
            let same : id ≡ j = cc in
            subst (λ (i : NodeId). Has (if_read (first_in (by_read i) g.edges) (slot_at slots i.at) (keys_read g.edges slots list)) w.key) same
            (subst (λ (o : Option EdgeId). Has (if_read o (slot_at slots id.at) (keys_read g.edges slots list)) w.key) (sym r)
            (subst (λ (t : Slot). Has (if_read (Some edge) t (keys_read g.edges slots list)) w.key) (sym s) (inl refl)))
        | inr i ↦ told_behind (first_in (by_read j) g.edges) (slot_at slots j.at) (keys_read g.edges slots list) w.key (read_told list id w edge i s r)
      ]

  module _ (order keys : List (Option NodeId)) (whole : IsWhole g slots order keys) (relation : IsRelation g) where
    abbrev held : List Kept
    held = entries g.edges slots 0 order

    -- who reads the vertex of a key was held with it
    told_held : (key : Key) → Has (keys_read g.edges slots keys) key → IsHeldWithKey held key
    told_held key h =
        let f = told_read keys key h in
        let e = first_entry (by_read f.id) g.edges f.edge f.read in
        let node : IsNode (slot_at slots e.0.reader.at) = whole.reads e.0.id.at e.0 (has_find g.edges relation.apart e.0 e.1) in
        let k = held_kept g slots order keys whole e.0.reader.at node in
        let read : e.0.read.at ≡ f.id.at = eqb-true e.0.read.at f.id.at e.2 in
        record {
          entry = kept g.edges slots k.0 k.1;
          among = k.2;
          sources = sources_at slots k.1.at g.edges;
          are = refl;
          has =
              subst (λ (s : Source). Has (sources_at slots k.1.at g.edges) s)
              (ap (λ n. source_in n (slot_at slots n)) read ∙ ap (source_in f.id.at) f.is.slot ∙ ap looked f.is.is)
              (edge_read slots k.1.at g.edges e.0 e.1 (sym k.3));
        }

    -- what a node was held with is the key of a vertex that is read
    held_told : (key : Key) → IsHeldWithKey held key → Has (keys_read g.edges slots keys) key
    held_told key d =
        let i = entry_at g.edges slots 0 order d.entry d.among in
        let node : node_at slots i.id.at ≡ d.entry.body.node = ap (λ (k : Kept). k.body.node) i.is in
        let all : own_key d.entry.body.node ++ sources_at slots i.id.at g.edges ≡ own_key d.entry.body.node ++ d.sources
        = ap (λ n. own_key n ++ sources_at slots i.id.at g.edges) (sym node) ∙ ap (λ (k : Kept). k.sources) i.is ∙ d.are in
        let has : Has (sources_at slots i.id.at g.edges) (looked key)
        = subst (λ (rs : List Source). Has rs (looked key)) (sym (behind_same (own_key d.entry.body.node) (sources_at slots i.id.at g.edges) d.sources all)) d.has in
        let r = read_edge slots i.id.at g.edges (looked key) has in
        let w = key_read r.edge.read.at (slot_at slots r.edge.read.at) key r.is in
        let st = whole.placed.keys_in.stands r.edge.read.at w.0.place (ap key_place w.1) in
        let f = entry_first (by_read st.id) g.edges r.edge r.among (eq-eqb r.edge.read.at st.id.at (sym st.is)) in
        subst (λ k. Has (keys_read g.edges slots keys) k) w.2
        (read_told keys st.id w.0 f.0 (has_there keys w.0.place st.id st.there) (ap (slot_at slots) st.is ∙ w.1) f.1)

    once : (list : List (Option NodeId)) → StandOnce list → StandApart (keys_read g.edges slots list)
    once [] o = tt
    once (None ∷ list) o = once list o
    once (Some id ∷ list) o = one (first_in (by_read id) g.edges) (slot_at slots id.at) refl (once list o.1)
      where
        one : (p : Option EdgeId) (s : Slot) → slot_at slots id.at ≡ s → StandApart (keys_read g.edges slots list) → StandApart (if_read p s (keys_read g.edges slots list))
        one None s f a = a
        one (Some i) Free f a = a
        one (Some i) (Node n) f a = a
        one (Some i) (Watch w) f a = (
          λ h. let r = told_read list w.key h in o.0 r.id r.there (whole.once id.at r.id.at w r.is.watched f r.is.slot (sym r.is.is)),
          a,
        )

    pub all_held : AreHeldKeys held (keys_read g.edges slots keys)
    all_held = record { each = λ key. (told_held key, held_told key); once = once keys (keys_once g slots slots order keys whole) }
