-- One more edge, and what is seen of it.
use Rattle.std.proofs.Common.{◌≡◌, ◌∙◌, ℕ, ◌+◌, Bool, true, false, cond, eqb, List, [], ◌∷◌, ◌++◌, map as map_list, Option, Some, None, is_some, Result, Ok, Err, refl, sym, ap, subst, append_assoc, ◌⊎◌, inl, inr}
use Rattle.std.specs.Prelude.{IsSome, OnOk, IfOk}
use Rattle.std.specs.FinMap as map
use Rattle.std.proofs.lemmas.Bool.{eqb-true, eqb-false, eq-eqb}
use Rattle.mx_graph.specs.declared.ids.NodeId.{NodeId}
use Rattle.mx_graph.specs.Relation.{Entry, Graph, IsRelation}
use Rattle.mx_edit.specs.declared.key.Key.{Key}
use Rattle.mx_vertices.specs.declared.slot.Slot.{Slot}
use Rattle.mx_vertices.specs.declared.slot.Slot.TheVariants.{Free, Node, Watch}
use Rattle.mx_vertices.specs.Places.{slot_at, node_place, key_place, at, IsPlacedIn, IsPlaced, Has}
use Rattle.mx_vertices.specs.Kept.{Kept, Source, asked, own_key, body_of, sources_at, source_in, kept, entries, IsNode, IsWhole, IsHeld, IsKeyAt, with_read}
use Rattle.mx_vertices.proofs.Places.{Nodes}
use Rattle.mx_vertices.proofs.Edges.{find_has, has_find}
use Rattle.mx_vertices.proofs.Touching.{entry_at, at_entry}

-- a vertex that has a slot is in the graph
pub held_live : (nodes : Nodes) (slots : List Slot) (order keys : List (Option NodeId)) → IsPlaced nodes slots order keys → (q : ℕ) → (slot_at slots q ≡ Free → ⊥) → IsSome (map.get nodes q)
held_live nodes slots order keys p q n = by (slot_at slots q) refl
  where
    stands : (place : Slot → Option ℕ) (list : List (Option NodeId)) (k : ℕ) → IsPlacedIn place nodes slots list → place (slot_at slots q) ≡ Some k → IsSome (map.get nodes q)
    stands place list k h e = let st = h.stands q k e in subst (λ i. IsSome (map.get nodes i)) st.is (h.told k st.id st.there).1

    by : (s : Slot) → slot_at slots q ≡ s → IsSome (map.get nodes q)
    by Free e = absurd (n e)
    by (Node h) e = stands node_place order h.place p.nodes_in (ap node_place e)
    by (Watch w) e = stands key_place keys w.place p.keys_in (ap key_place e)

-- what is there stays where a new vertex comes
pub stays_there : (nodes : Nodes) (slots slots2 : List Slot) (order keys : List (Option NodeId)) (id : NodeId) (q : ℕ) (t : Slot) → IsPlaced nodes slots order keys → map.get nodes id.at ≡ None
    → ((q : ℕ) → slot_at slots2 q ≡ cond (eqb id.at q) t (slot_at slots q)) → (slot_at slots q ≡ Free → ⊥) → slot_at slots2 q ≡ slot_at slots q
stays_there nodes slots slots2 order keys id q t p fresh slot n =
    slot q
    ∙ elim (eqb id.at q) as (λ b. eqb id.at q ≡ b → cond b t (slot_at slots q) ≡ slot_at slots q) [
      | true ↦ λ e.
          let none : map.get nodes q ≡ None = ap (λ k. map.get nodes k) (sym (eqb-true id.at q e)) ∙ fresh in
          let no : false ≡ true = sym (ap is_some none) ∙ held_live nodes slots order keys p q n in
          cc
      | false ↦ λ e. refl
    ] refl

pub node_not_free : (s : Slot) → IsNode s → s ≡ Free → ⊥
node_not_free Free n e = n
node_not_free (Node h) n e = cc
node_not_free (Watch w) n e = n

-- a node that is held has the slot of a node
pub held_node : (g : Graph) (slots : List Slot) (order keys : List (Option NodeId)) → IsWhole g slots order keys → (q : ℕ) → IsHeld (entries g.edges slots 0 order) q → IsNode (slot_at slots q)
held_node g slots order keys w q h =
    let i = entry_at g.edges slots 0 order h.entry h.among in
    let p = (w.placed.nodes_in.told i.place i.id i.there).0 in
    subst (λ n. IsNode (slot_at slots n)) (ap (λ (r : Kept). r.id) i.is ∙ h.is) (by (slot_at slots i.id.at) i.place p)
  where
    by : (s : Slot) (k : ℕ) → node_place s ≡ Some k → IsNode s
    by Free k e = cc
    by (Node h) k e = tt
    by (Watch w) k e = cc

pub read_of_node : (q : ℕ) (s : Slot) → IsNode s → source_in q s ≡ asked q
read_of_node q Free n = absurd n
read_of_node q (Node h) n = refl
read_of_node q (Watch w) n = absurd n

module _ (slots : List Slot) (edges : List Entry) (e : Entry) where
  reads_push : (q : ℕ) (es : List Entry) → sources_at slots q (es ++ e ∷ []) ≡ cond (eqb e.reader.at q) (sources_at slots q es ++ source_in e.read.at (slot_at slots e.read.at) ∷ []) (sources_at slots q es)
  reads_push q [] = refl
  reads_push q (x ∷ es) =
      elim (eqb x.reader.at q) as (λ b. cond b (source_in x.read.at (slot_at slots x.read.at) ∷ sources_at slots q (es ++ e ∷ [])) (sources_at slots q (es ++ e ∷ [])) ≡ cond (eqb e.reader.at q) (cond b (source_in x.read.at (slot_at slots x.read.at) ∷ sources_at slots q es) (sources_at slots q es) ++ source_in e.read.at (slot_at slots e.read.at) ∷ []) (cond b (source_in x.read.at (slot_at slots x.read.at) ∷ sources_at slots q es) (sources_at slots q es))) [
        | true ↦ ap (λ rs. source_in x.read.at (slot_at slots x.read.at) ∷ rs) (reads_push q es) ∙ out (eqb e.reader.at q) (source_in x.read.at (slot_at slots x.read.at)) (sources_at slots q es)
        | false ↦ reads_push q es
      ]
    where
      out : (b : Bool) (r : Source) (rs : List Source) → r ∷ cond b (rs ++ source_in e.read.at (slot_at slots e.read.at) ∷ []) rs ≡ cond b ((r ∷ rs) ++ source_in e.read.at (slot_at slots e.read.at) ∷ []) (r ∷ rs)
      out true r rs = refl
      out false r rs = refl

  same_test : (a b : ℕ) → eqb a b ≡ eqb b a
  same_test a b =
      elim (eqb a b) as (λ t. eqb a b ≡ t → t ≡ eqb b a) [
        | true ↦ λ h. sym (eq-eqb b a (sym (eqb-true a b h)))
        | false ↦ λ h.
            elim (eqb b a) as (λ t. eqb b a ≡ t → false ≡ t) [
              | true ↦ λ k. absurd (eqb-false a b h (sym (eqb-true b a k)))
              | false ↦ λ k. refl
            ] refl
      ] refl

  kept_push : (stamp : ℕ) (id : NodeId) → kept (edges ++ e ∷ []) slots stamp id ≡ with_read e.reader.at (source_in e.read.at (slot_at slots e.read.at)) (kept edges slots stamp id)
  kept_push stamp id =
      ap (λ (rs : List Source). record (kept edges slots stamp id) { sources = own_key (body_of (slot_at slots id.at)).node ++ rs }) (reads_push id.at edges)
      ∙ ap (λ b. record (kept edges slots stamp id) { sources = own_key (body_of (slot_at slots id.at)).node ++ cond b (sources_at slots id.at edges ++ source_in e.read.at (slot_at slots e.read.at) ∷ []) (sources_at slots id.at edges) }) (same_test e.reader.at id.at)
      ∙ out (own_key (body_of (slot_at slots id.at)).node) (eqb id.at e.reader.at)
    where
      out : (own : List Source) (b : Bool) → record (kept edges slots stamp id) { sources = own ++ cond b (sources_at slots id.at edges ++ source_in e.read.at (slot_at slots e.read.at) ∷ []) (sources_at slots id.at edges) } ≡ cond b (record (kept edges slots stamp id) { sources = (own ++ sources_at slots id.at edges) ++ source_in e.read.at (slot_at slots e.read.at) ∷ [] }) (record (kept edges slots stamp id) { sources = own ++ sources_at slots id.at edges })
      out own true = ap (λ (rs : List Source). record (kept edges slots stamp id) { sources = rs }) (sym (append_assoc own (sources_at slots id.at edges) (source_in e.read.at (slot_at slots e.read.at) ∷ [])))
      out own false = refl

  pub entries_read : (p : ℕ) (list : List (Option NodeId)) → entries (edges ++ e ∷ []) slots p list ≡ map_list (with_read e.reader.at (source_in e.read.at (slot_at slots e.read.at))) (entries edges slots p list)
  entries_read p [] = refl
  entries_read p (None ∷ list) = entries_read (p + 1) list
  entries_read p (Some id ∷ list) =
      ap (λ (r : Kept). r ∷ entries (edges ++ e ∷ []) slots (p + 1) list) (kept_push (p + 1) id)
      ∙ ap (λ (rs : List Kept). with_read e.reader.at (source_in e.read.at (slot_at slots e.read.at)) (kept edges slots (p + 1) id) ∷ rs) (entries_read (p + 1) list)

has_last : (es : List Entry) (e x : Entry) → Has (es ++ e ∷ []) x → Has es x ⊎ (e ≡ x)
has_last [] e x h = elim h [ inl s ↦ inr s | inr n ↦ absurd n ]
has_last (y ∷ es) e x h = elim h [ inl s ↦ inl (inl s) | inr i ↦ elim (has_last es e x i) [ inl a ↦ inl (inr a) | inr a ↦ inr a ] ]

-- a node reads one more
pub read_whole : (g h : Graph) (slots : List Slot) (order keys : List (Option NodeId)) (e : Entry) → IsRelation g → IsWhole g slots order keys → h.nodes ≡ g.nodes → h.edges ≡ g.edges ++ e ∷ [] → IsNode (slot_at slots e.reader.at) → IsWhole h slots order keys
read_whole g h slots order keys e relation w nodes edges node = record {
  placed = subst (λ (m : Nodes). IsPlaced m slots order keys) (sym nodes) w.placed;
  unmarked = λ q m. w.unmarked q (ap (λ (m : Nodes). map.get m q) (sym nodes) ∙ m);
  reads = λ k x f.
      elim (has_last g.edges e x (subst (λ (xs : List Entry). Has xs x) edges (find_has k h.edges x f))) [
        | inl i ↦ w.reads x.id.at x (has_find g.edges relation.apart x i)
        | inr s ↦ subst (λ (y : Entry). IsNode (slot_at slots y.reader.at)) s node
      ];
  once = w.once;
}

pub on_ok : {A E : Type 0} (r : Result A E) (P Q : Type 0) → (P → Q) → OnOk r P → OnOk r Q
on_ok (Ok v) P Q f p = f p
on_ok (Err e) P Q f p = tt

-- a key that is at no place of the keys is no vertex
pub no_key : (nodes : Nodes) (slots : List Slot) (keys ks : List (Option NodeId)) (ss : List Slot) (key : Key) → IsPlacedIn key_place nodes slots keys → ks ≡ keys → ss ≡ slots → ((p : ℕ) (id : NodeId) → at ks p ≡ Some id → IsKeyAt ss id.at key → ⊥) → (q : ℕ) → IsKeyAt slots q key → ⊥
no_key nodes slots keys ks ss key placed a b n q k =
    let st = placed.stands q k.watched.place (ap key_place k.slot) in
    n k.watched.place st.id (ap (λ (xs : List (Option NodeId)). at xs k.watched.place) a ∙ st.there)
    (subst (λ (xs : List Slot). IsKeyAt xs st.id.at key) (sym b) (subst (λ i. IsKeyAt slots i key) (sym st.is) k))

-- what is held is a node, after a call that changed nothing that is seen
pub still_node : (g : Graph) (slots ss : List Slot) (order keys : List (Option NodeId)) (before : List Kept) (q : ℕ) → IsWhole g slots order keys → ss ≡ slots → entries g.edges slots 0 order ≡ before → IsHeld before q → IsNode (slot_at ss q)
still_node g slots ss order keys before q w s e h =
    subst (λ (xs : List Slot). IsNode (slot_at xs q)) (sym s) (held_node g slots order keys w q (subst (λ (es : List Kept). IsHeld es q) (sym e) h))

-- a node with its slot is held
pub node_held : (g : Graph) (slots : List Slot) (order keys : List (Option NodeId)) → IsWhole g slots order keys → (q : ℕ) → IsNode (slot_at slots q) → IsHeld (entries g.edges slots 0 order) q
node_held g slots order keys w q n = by (slot_at slots q) refl n
  where
    by : (s : Slot) → slot_at slots q ≡ s → IsNode s → IsHeld (entries g.edges slots 0 order) q
    by Free e n = absurd n
    by (Watch v) e n = absurd n
    by (Node h) e n =
        let st = w.placed.nodes_in.stands q h.place (ap node_place e) in
        let f = at_entry g.edges slots 0 order h.place st.id st.there in
        record { entry = kept g.edges slots f.stamp st.id; among = f.among; is = st.is }

-- a held node as it is seen
pub held_kept : (g : Graph) (slots : List Slot) (order keys : List (Option NodeId)) → IsWhole g slots order keys → (q : ℕ) → IsNode (slot_at slots q) → (stamp : ℕ) × (id : NodeId) × Has (entries g.edges slots 0 order) (kept g.edges slots stamp id) × (id.at ≡ q)
held_kept g slots order keys w q n = by (slot_at slots q) refl n
  where
    by : (s : Slot) → slot_at slots q ≡ s → IsNode s → (stamp : ℕ) × (id : NodeId) × Has (entries g.edges slots 0 order) (kept g.edges slots stamp id) × (id.at ≡ q)
    by Free e n = absurd n
    by (Watch v) e n = absurd n
    by (Node h) e n =
        let st = w.placed.nodes_in.stands q h.place (ap node_place e) in
        let f = at_entry g.edges slots 0 order h.place st.id st.there in
        (f.stamp, st.id, f.among, st.is)

pub ok_map : {A E : Type 0} (r : Result A E) (P Q : A → Type 0) → ((a : A) → P a → Q a) → IfOk r P → IfOk r Q
ok_map (Ok a) P Q f p = f a p
ok_map (Err e) P Q f p = tt

pub key_not_free : (slots : List Slot) (q : ℕ) (key : Key) → IsKeyAt slots q key → slot_at slots q ≡ Free → ⊥
key_not_free slots q key k f = let no : Watch k.watched ≡ Free = sym k.slot ∙ f in cc
