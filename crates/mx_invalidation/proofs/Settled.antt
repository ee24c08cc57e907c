-- What is seen of a memo whose vertices were told new places.
use Rattle.std.proofs.Common.{◌++◌, ◌≡◌, ◌∙◌, ℕ, ◌+◌, true, false, cond, eqb, List, [], ◌∷◌, length, Option, Some, None, refl, sym, ap, subst, arith}
use Rattle.mx_graph.specs.declared.ids.NodeId.{NodeId}
use Rattle.mx_graph.specs.Relation.{Entry, Graph}
use Rattle.mx_edit.specs.declared.key.Key.{Key}
use Rattle.mx_value.specs.declared.node.Node.{Node as Asked}
use Rattle.mx_vertices.specs.declared.slot.Body.{Body}
use Rattle.mx_vertices.specs.declared.slot.Slot.{Slot}
use Rattle.mx_vertices.specs.declared.standing.Standing.{Standing}
use Rattle.mx_vertices.specs.declared.slot.Slot.TheVariants.{Free, Node, Watch}
use Rattle.mx_vertices.specs.Places.{slot_at, node_place, key_place, at, with_place, IsAlike, IsPlacedIn, IsSettled, StandOnce, held_in}
use Rattle.mx_vertices.specs.Kept.{Kept, Source, own_key, sources_at, source_in, kept, entries, body_of, IsWhole}
use Rattle.mx_invalidation.specs.Stamps.{renumbered}
use Rattle.mx_vertices.specs.Found.{IsFound, LeadsRight, AreWatched}
use Rattle.mx_vertices.proofs.Places.{Nodes, at_has}
use Rattle.mx_invalidation.proofs.Settling.{alike_body, alike_source, alike_node, alike_free, alike_watch, alike_held, has_there, has_taken, has_untaken, once_of, taken}

module _ (slots slots2 : List Slot) (alike : (q : ℕ) → IsAlike (slot_at slots q) (slot_at slots2 q)) where
  reads_alike : (q : ℕ) (es : List Entry) → sources_at slots2 q es ≡ sources_at slots q es
  reads_alike q [] = refl
  reads_alike q (e ∷ es) =
      let a = alike_source (slot_at slots e.read.at) (slot_at slots2 e.read.at) (alike e.read.at) e.read.at in
      elim (eqb e.reader.at q) as (λ b. cond b (source_in e.read.at (slot_at slots2 e.read.at) ∷ sources_at slots2 q es) (sources_at slots2 q es) ≡ cond b (source_in e.read.at (slot_at slots e.read.at) ∷ sources_at slots q es) (sources_at slots q es)) [
        | true ↦ ap (λ r. r ∷ sources_at slots2 q es) a ∙ ap (λ rs. source_in e.read.at (slot_at slots e.read.at) ∷ rs) (reads_alike q es)
        | false ↦ reads_alike q es
      ]

  kept_alike : (edges : List Entry) (stamp : ℕ) (id : NodeId) → kept edges slots2 stamp id ≡ kept edges slots stamp id
  kept_alike edges stamp id =
      ap (λ (b : Body). record { stamp = stamp; id = id.at; body = b; sources = own_key b.node ++ sources_at slots2 id.at edges }) (alike_body (slot_at slots id.at) (slot_at slots2 id.at) (alike id.at))
      ∙ ap (λ (rs : List Source). record { stamp = stamp; id = id.at; body = body_of (slot_at slots id.at); sources = own_key (body_of (slot_at slots id.at)).node ++ rs }) (reads_alike id.at edges)

  pub entries_alike : (edges : List Entry) (p : ℕ) (list : List (Option NodeId)) → entries edges slots2 p list ≡ entries edges slots p list
  entries_alike edges p [] = refl
  entries_alike edges p (None ∷ list) = entries_alike edges (p + 1) list
  entries_alike edges p (Some id ∷ list) =
      ap (λ (r : Kept). r ∷ entries edges slots2 (p + 1) list) (kept_alike edges (p + 1) id)
      ∙ ap (λ (rs : List Kept). kept edges slots (p + 1) id ∷ rs) (entries_alike edges (p + 1) list)

  -- the rest of a memo whose lists stand
  pub alike_whole : (g : Graph) (order keys order2 keys2 : List (Option NodeId)) → IsWhole g slots order keys → IsPlacedIn node_place g.nodes slots2 order2 → IsPlacedIn key_place g.nodes slots2 keys2 → IsWhole g slots2 order2 keys2
  alike_whole g order keys order2 keys2 w nodes_in keys_in = record {
    placed = record {
      live = λ q h f. w.placed.live q h (alike_free (slot_at slots q) (slot_at slots2 q) (alike q) f);
      nodes_in = nodes_in;
      keys_in = keys_in;
    };
    unmarked = w.unmarked;
    reads = λ k e f. subst (λ (T : Type 0). T) (sym (alike_node (slot_at slots e.reader.at) (slot_at slots2 e.reader.at) (alike e.reader.at))) (w.reads k e f);
    once = λ q r v u a b e.
        let x = alike_watch (slot_at slots q) (slot_at slots2 q) (alike q) v a in
        let y = alike_watch (slot_at slots r) (slot_at slots2 r) (alike r) u b in
        w.once q r x.0 y.0 x.1 y.1 (x.2 ∙ e ∙ sym y.2);
  }

  pub alike_found : (look : Asked → Option Standing) (order : List (Option NodeId)) → IsFound look slots order → IsFound look slots2 order
  alike_found look order found p id e = ap (λ (b : Body). look b.node) (alike_body (slot_at slots id.at) (slot_at slots2 id.at) (alike id.at)) ∙ found p id e

pub entries_taken : (edges : List Entry) (slots : List Slot) (p k : ℕ) (list : List (Option NodeId)) → entries edges slots p (taken list) ≡ renumbered p (entries edges slots k list)
entries_taken edges slots p k [] = refl
entries_taken edges slots p k (None ∷ list) = entries_taken edges slots p (k + 1) list
entries_taken edges slots p k (Some id ∷ list) = ap (λ (rs : List Kept). kept edges slots (p + 1) id ∷ rs) (entries_taken edges slots (p + 1) (k + 1) list)

pub count_taken : (list : List (Option NodeId)) → held_in (taken list) ≡ held_in list
count_taken [] = refl
count_taken (None ∷ list) = count_taken list
count_taken (Some id ∷ list) = let h = count_taken list in omega (arith, h)

pub length_taken : (list : List (Option NodeId)) → length (taken list) ≡ held_in list
length_taken [] = refl
length_taken (None ∷ list) = length_taken list
length_taken (Some id ∷ list) = let h = length_taken list in omega (arith, h)

pub taken_in : (list : List (Option NodeId)) (p : ℕ) (id : NodeId) → at (taken list) p ≡ Some id → (k : ℕ) × (at list k ≡ Some id)
taken_in list p id e = at_has list id (has_untaken list id (has_there (taken list) p id e))

pub in_taken : (list : List (Option NodeId)) (p : ℕ) (id : NodeId) → at list p ≡ Some id → (k : ℕ) × (at (taken list) k ≡ Some id)
in_taken list p id e = at_has (taken list) id (has_taken list id (has_there list p id e))

-- the list of one kind is settled, that of the other stays
module _ (place other : Slot → Option ℕ) (moves : (s : Slot) (k p : ℕ) → place s ≡ Some k → place (with_place p s) ≡ Some p)
    (back : (s t : Slot) → IsAlike s t → (p : ℕ) → place t ≡ Some p → (k : ℕ) × (place s ≡ Some k))
    (back_other : (s t : Slot) → IsAlike s t → (p : ℕ) → other t ≡ Some p → (k : ℕ) × (other s ≡ Some k))
    (apart : (s : Slot) (k p : ℕ) → place s ≡ Some k → other s ≡ Some p → ⊥)
    (nodes : Nodes) (slots slots2 : List Slot) (list others : List (Option NodeId)) (placed : IsPlacedIn place nodes slots list) (placed_other : IsPlacedIn other nodes slots others) (settled : IsSettled slots slots2 (taken list)) where
  settled_in : IsPlacedIn place nodes slots2 (taken list)
  settled_in = record {
    told = λ p id e.
        let f = taken_in list p id e in
        let t = placed.told f.0 id f.1 in
        (ap place (settled.told p id e) ∙ moves (slot_at slots id.at) f.0 p t.0, t.1);
    stands = λ q p e.
        let b = back (slot_at slots q) (slot_at slots2 q) (settled.alike q) p e in
        let st = placed.stands q b.0 b.1 in
        let f = in_taken list b.0 st.id st.there in
        let now : place (slot_at slots2 q) ≡ Some f.0
        = ap (λ k. place (slot_at slots2 k)) (sym st.is) ∙ ap place (settled.told f.0 st.id f.1) ∙ moves (slot_at slots st.id.at) b.0 f.0 (ap (λ k. place (slot_at slots k)) st.is ∙ b.1) in
        let same : f.0 ≡ p = cc in
        record { id = st.id; is = st.is; there = subst (λ k. at (taken list) k ≡ Some st.id) same f.1 };
  }

  stay : (q p : ℕ) → other (slot_at slots q) ≡ Some p → slot_at slots2 q ≡ slot_at slots q
  stay q p e = settled.others q (λ k j a s. let f = taken_in list k j a in apart (slot_at slots q) f.0 p (ap (λ n. place (slot_at slots n)) (sym s) ∙ (placed.told f.0 j f.1).0) e)

  others_in : IsPlacedIn other nodes slots2 others
  others_in = record {
    told = λ p id e. let t = placed_other.told p id e in (ap other (stay id.at p t.0) ∙ t.0, t.1);
    stands = λ q p e. let b = back_other (slot_at slots q) (slot_at slots2 q) (settled.alike q) p e in placed_other.stands q p (ap other (sym (stay q b.0 b.1)) ∙ e);
  }

node_moves : (s : Slot) (k p : ℕ) → node_place s ≡ Some k → node_place (with_place p s) ≡ Some p
node_moves Free k p e = cc
node_moves (Node h) k p e = refl
node_moves (Watch w) k p e = cc

key_moves : (s : Slot) (k p : ℕ) → key_place s ≡ Some k → key_place (with_place p s) ≡ Some p
key_moves Free k p e = cc
key_moves (Node h) k p e = cc
key_moves (Watch w) k p e = refl

node_back : (s t : Slot) → IsAlike s t → (p : ℕ) → node_place t ≡ Some p → (k : ℕ) × (node_place s ≡ Some k)
node_back s t a p e = by s (ap node_place (sym (a 0)) ∙ node_moves t p 0 e)
  where
    by : (s : Slot) → node_place (with_place 0 s) ≡ Some 0 → (k : ℕ) × (node_place s ≡ Some k)
    by Free e = cc
    by (Node h) e = (h.place, refl)
    by (Watch w) e = cc

key_back : (s t : Slot) → IsAlike s t → (p : ℕ) → key_place t ≡ Some p → (k : ℕ) × (key_place s ≡ Some k)
key_back s t a p e = by s (ap key_place (sym (a 0)) ∙ key_moves t p 0 e)
  where
    by : (s : Slot) → key_place (with_place 0 s) ≡ Some 0 → (k : ℕ) × (key_place s ≡ Some k)
    by Free e = cc
    by (Node h) e = cc
    by (Watch w) e = (w.place, refl)

pub not_both : (s : Slot) (k p : ℕ) → node_place s ≡ Some k → key_place s ≡ Some p → ⊥
not_both Free k p a b = cc
not_both (Node h) k p a b = cc
not_both (Watch w) k p a b = cc

module _ (g : Graph) (slots slots2 : List Slot) (order keys : List (Option NodeId)) (whole : IsWhole g slots order keys) where
  pub keys_once : StandOnce keys
  keys_once = once_of key_place slots 0 keys (λ p id e. (whole.placed.keys_in.told p id e).0 ∙ ap Some (omega arith))

  pub order_once : StandOnce order
  order_once = once_of node_place slots 0 order (λ p id e. (whole.placed.nodes_in.told p id e).0 ∙ ap Some (omega arith))

  pub keys_there : (p : ℕ) (id : NodeId) → at keys p ≡ Some id → slot_at slots id.at ≡ Free → ⊥
  keys_there p id e f = let none : None ≡ Some p = ap key_place (sym f) ∙ (whole.placed.keys_in.told p id e).0 in cc

  pub order_there : (p : ℕ) (id : NodeId) → at order p ≡ Some id → slot_at slots id.at ≡ Free → ⊥
  order_there p id e f = let none : None ≡ Some p = ap node_place (sym f) ∙ (whole.placed.nodes_in.told p id e).0 in cc

  pub keys_settled : IsSettled slots slots2 (taken keys) → IsWhole g slots2 order (taken keys)
  keys_settled s =
      alike_whole slots slots2 s.alike g order keys order (taken keys) whole
      (others_in key_place node_place key_moves key_back node_back (λ s k p a b. not_both s p k b a) g.nodes slots slots2 keys order whole.placed.keys_in whole.placed.nodes_in s)
      (settled_in key_place node_place key_moves key_back node_back (λ s k p a b. not_both s p k b a) g.nodes slots slots2 keys order whole.placed.keys_in whole.placed.nodes_in s)

  pub order_settled : IsSettled slots slots2 (taken order) → IsWhole g slots2 (taken order) keys
  order_settled s =
      alike_whole slots slots2 s.alike g order keys (taken order) keys whole
      (settled_in node_place key_place node_moves node_back key_back not_both g.nodes slots slots2 order keys whole.placed.nodes_in whole.placed.keys_in s)
      (others_in node_place key_place node_moves node_back key_back not_both g.nodes slots slots2 order keys whole.placed.nodes_in whole.placed.keys_in s)

pub found_taken : (look : Asked → Option Standing) (slots : List Slot) (order : List (Option NodeId)) → IsFound look slots order → IsFound look slots (taken order)
found_taken look slots order found p id e = let f = taken_in order p id e in found f.0 id f.1

-- vertices are told other places
pub right_alike : (slots slots2 : List Slot) → ((q : ℕ) → IsAlike (slot_at slots q) (slot_at slots2 q)) → (look : Asked → Option Standing) → LeadsRight look slots → LeadsRight look slots2
right_alike slots slots2 alike look right n id e =
    let i = right n id e in
    let h = alike_held (slot_at slots id.at) (slot_at slots2 id.at) (alike id.at) i.held i.slot in
    record { held = h.0; slot = h.1; is = ap (λ (b : Body). b.node) h.2 ∙ i.is }

pub watched_alike : (slots slots2 : List Slot) → ((q : ℕ) → IsAlike (slot_at slots q) (slot_at slots2 q)) → (look : Key → Option NodeId) → AreWatched look slots → AreWatched look slots2
watched_alike slots slots2 alike look watched q w e =
    let v = alike_watch (slot_at slots q) (slot_at slots2 q) (alike q) w e in
    let l = watched q v.0 v.1 in
    (l.0, ap look (sym v.2) ∙ l.1, l.2)
