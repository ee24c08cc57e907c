-- The table of the held nodes as vertices come and go.
use Rattle.std.proofs.Common.{◌≡◌, ◌∙◌, ℕ, ◌<◌, ◌≤◌, true, false, cond, suc, zero, List, [], ◌∷◌, ◌++◌, length, Option, Some, None, Result, Ok, Err, refl, sym, ap, subst, arith, ◌⊎◌, inl, inr}
use Rattle.std.specs.Prelude.{IsOk, OnOk, MatchOption}
use Rattle.std.proofs.lemmas.List.{get_or-set_same, get_or-set_other, get_or_past, set_past}
use Rattle.std.proofs.Math.ListN.{set}
use Rattle.mx_graph.specs.declared.ids.NodeId.{NodeId}
use Rattle.mx_graph.specs.Relation.{Entry, Graph}
use Rattle.mx_value.specs.declared.node.Node.{Node as Asked}
use Rattle.mx_value.specs.Equality.{node_eq}
use Rattle.mx_vertices.specs.declared.slot.Body.{Body}
use Rattle.mx_vertices.specs.declared.slot.Held.{Held}
use Rattle.mx_vertices.specs.declared.slot.Slot.{Slot}
use Rattle.mx_vertices.specs.declared.standing.Standing.{Standing}
use Rattle.mx_vertices.specs.declared.standing.Standing.TheVariants.{Begun, Ended}
use Rattle.mx_vertices.specs.declared.slot.Slot.TheVariants.{Free, Node, Watch}
use Rattle.mx_vertices.specs.Places.{slot_at, node_place, cleared, at, IsPlacedIn, Has}
use Rattle.mx_vertices.specs.Kept.{Kept, kept, entries, body_of, IsWhole}
use Rattle.mx_vertices.specs.Found.{node_at, IsFound, is_begun, look_without, IsNew, IsNodeAt, IsHeldAs, IsBodyAt, IsHeldWith}
use Rattle.mx_vertices.proofs.Places.{Nodes, same_or, slot_freed}
use Rattle.mx_vertices.proofs.Touching.{at_entry, entry_at}

abbrev pub NodeLaws : Type 0
NodeLaws = (a b : Asked) → (node_eq a b ≡ true → a ≡ b) × (a ≡ b → node_eq a b ≡ true)

cleared_old : (t : Option ℕ) (list : List (Option NodeId)) (p : ℕ) (j : NodeId) → at (cleared t list) p ≡ Some j → (at list p ≡ Some j) × (t ≡ Some p → ⊥)
cleared_old None list p j e = (e, λ h. cc)
cleared_old (Some k) list p j e =
    elim (same_or k p) [
      | inl s ↦
          let here : at (set list p None) p ≡ Some j = subst (λ n. at (set list n None) p ≡ Some j) s e in
          elim (below p) [
            | inl l ↦ let none : at (set list p None) p ≡ None = get_or-set_same list p None None l in absurd (off (sym none ∙ here))
            | inr l ↦
                let same : at list p ≡ Some j = subst (λ (xs : List (Option NodeId)). at xs p ≡ Some j) (set_past list p None l) here in
                let none : at list p ≡ None = get_or_past list p None l in
                absurd (off (sym none ∙ same))
          ]
      | inr n ↦ (sym (get_or-set_other list k p None None (λ s. n (sym s))) ∙ e, λ h. let s : k ≡ p = cc in n s)
    ]
  where
    below : (k : ℕ) → (k < length list) ⊎ (length list ≤ k)
    below k = grind arith

    off : None ≡ Some j → ⊥
    off h = cc

none_some : (j : NodeId) → None ≡ Some j → ⊥
none_some j h = cc

none_ended : (j : NodeId) → None ≡ Some (Ended j) → ⊥
none_ended j h = cc

begun_ended : (j : NodeId) → Some Begun ≡ Some (Ended j) → ⊥
begun_ended j h = let no : Begun ≡ Ended j = cc in cc

-- a vertex that stands is there
pub there_not_free : (nodes : Nodes) (slots : List Slot) (order : List (Option NodeId)) (p : ℕ) (id : NodeId) → IsPlacedIn node_place nodes slots order → at order p ≡ Some id → slot_at slots id.at ≡ Free → ⊥
there_not_free nodes slots order p id h e f = let n : None ≡ Some p = ap node_place (sym f) ∙ (h.told p id e).0 in cc

module _ (laws : NodeLaws) (look look2 : Asked → Option Standing) (nodes : Nodes) (slots : List Slot) (order : List (Option NodeId)) (q : ℕ) (placed : IsPlacedIn node_place nodes slots order) (found : IsFound look slots order)
    (left : (n : Asked) → look2 n ≡ look_without (slot_at slots q) look n) where
  by_slot : (t : Slot) → slot_at slots q ≡ t → (p : ℕ) (j : NodeId) → at order p ≡ Some j → (q ≡ j.at → ⊥) → look_without t look (node_at slots j.at) ≡ Some (Ended j)
  by_slot Free e p j a n = found p j a
  by_slot (Watch w) e p j a n = found p j a
  by_slot (Node h) e p j a n =
      elim (node_eq h.body.node (node_at slots j.at)) as (λ b. node_eq h.body.node (node_at slots j.at) ≡ b → cond b None (look (node_at slots j.at)) ≡ Some (Ended j)) [
        | true ↦ λ t.
            let st = placed.stands q h.place (ap node_place e) in
            let own : node_at slots st.id.at ≡ h.body.node = ap (node_at slots) st.is ∙ ap (λ (s : Slot). (body_of s).node) e in
            let same : node_at slots st.id.at ≡ node_at slots j.at = own ∙ (laws h.body.node (node_at slots j.at)).0 t in
            let both : Some (Ended st.id) ≡ Some (Ended j) = sym (found h.place st.id st.there) ∙ ap look same ∙ found p j a in
            let id : st.id ≡ j = cc in
            absurd (n (sym st.is ∙ ap (λ (i : NodeId). i.at) id))
        | false ↦ λ t. found p j a
      ] refl

  turn : IsFound look2 (set slots q Free) (cleared (node_place (slot_at slots q)) order)
  turn p j e =
      let o = cleared_old (node_place (slot_at slots q)) order p j e in
      let told = (placed.told p j o.0).0 in
      let other : q ≡ j.at → ⊥ = λ s. o.1 (ap (λ k. node_place (slot_at slots k)) s ∙ told) in
      ap (λ (s : Slot). look2 (body_of s).node) (slot_freed slots q j.at other)
      ∙ left (node_at slots j.at)
      ∙ by_slot (slot_at slots q) refl p j o.0 other

  -- one vertex leaves
  pub found_turn : (slots2 : List Slot) (order2 : List (Option NodeId)) → slots2 ≡ set slots q Free → order2 ≡ cleared (node_place (slot_at slots q)) order → IsFound look2 slots2 order2
  found_turn slots2 order2 a b =
      subst (λ (xs : List Slot). IsFound look2 xs order2) (sym a) (subst (λ (xs : List (Option NodeId)). IsFound look2 (set slots q Free) xs) (sym b) turn)

  begun_by : (t : Slot) → slot_at slots q ≡ t → (n : Asked) → is_begun (look_without t look n) ≡ is_begun (look n)
  begun_by Free e n = refl
  begun_by (Watch w) e n = refl
  begun_by (Node h) e n =
      elim (node_eq h.body.node n) as (λ b. node_eq h.body.node n ≡ b → is_begun (cond b None (look n)) ≡ is_begun (look n)) [
        | true ↦ λ t.
            let st = placed.stands q h.place (ap node_place e) in
            let own : node_at slots st.id.at ≡ n = ap (node_at slots) st.is ∙ ap (λ (s : Slot). (body_of s).node) e ∙ (laws h.body.node n).0 t in
            sym (ap is_begun (ap look (sym own) ∙ found h.place st.id st.there))
        | false ↦ λ t. refl
      ] refl

  -- what has begun has begun
  pub begun_turn : (n : Asked) → is_begun (look2 n) ≡ is_begun (look n)
  begun_turn n = ap is_begun (left n) ∙ begun_by (slot_at slots q) refl n

-- what is there stays
pub found_same : (look look2 : Asked → Option Standing) (nodes : Nodes) (slots slots2 : List Slot) (order : List (Option NodeId)) → IsPlacedIn node_place nodes slots order → ((n : Asked) → look2 n ≡ look n)
    → ((q : ℕ) → (slot_at slots q ≡ Free → ⊥) → slot_at slots2 q ≡ slot_at slots q) → IsFound look slots order → IsFound look2 slots2 order
found_same look look2 nodes slots slots2 order placed same stays found p id e =
    ap (λ (s : Slot). look2 (body_of s).node) (stays id.at (there_not_free nodes slots order p id placed e)) ∙ same (node_at slots id.at) ∙ found p id e

at_last : (list : List (Option NodeId)) (id : NodeId) (p : ℕ) (j : NodeId) → at (list ++ Some id ∷ []) p ≡ Some j → (at list p ≡ Some j) ⊎ (id ≡ j)
at_last [] id zero j e = let s : id ≡ j = cc in inr s
at_last [] id (suc p) j e = let none : at (Some id ∷ []) (suc p) ≡ None = get_or_past {X = Option NodeId} (Some id ∷ []) (suc p) None (omega arith) in absurd (none_some j (sym none ∙ e))
at_last (x ∷ list) id zero j e = inl e
at_last (x ∷ list) id (suc p) j e = at_last list id p j e

-- one more is held
pub found_last : (laws : NodeLaws) (look look2 : Asked → Option Standing) (nodes : Nodes) (edges : List Entry) (slots slots2 : List Slot) (order order2 : List (Option NodeId)) (id : NodeId) (held : Held) → IsPlacedIn node_place nodes slots order
    → ((n : Asked) → look2 n ≡ cond (node_eq held.body.node n) (Some (Ended id)) (look n)) → order2 ≡ order ++ Some id ∷ [] → slot_at slots2 id.at ≡ Node held
    → ((q : ℕ) → (slot_at slots q ≡ Free → ⊥) → slot_at slots2 q ≡ slot_at slots q) → IsNew (entries edges slots 0 order) held.body.node → IsFound look slots order → IsFound look2 slots2 order2
found_last laws look look2 nodes edges slots slots2 order order2 id held placed puts is node stays new found p j e =
    elim (at_last order id p j (subst (λ (xs : List (Option NodeId)). at xs p ≡ Some j) is e)) [
      | inl a ↦
          let other : node_eq held.body.node (node_at slots j.at) ≡ false
          = elim (node_eq held.body.node (node_at slots j.at)) as (λ b. node_eq held.body.node (node_at slots j.at) ≡ b → b ≡ false) [
            | true ↦ λ t.
                let f = at_entry edges slots 0 order p j a in
                absurd (new (kept edges slots f.stamp j) f.among (sym ((laws held.body.node (node_at slots j.at)).0 t)))
            | false ↦ λ t. refl
          ] refl in
          ap (λ (s : Slot). look2 (body_of s).node) (stays j.at (there_not_free nodes slots order p j placed a))
          ∙ puts (node_at slots j.at)
          ∙ ap (λ b. cond b (Some (Ended id)) (look (node_at slots j.at))) other
          ∙ found p j a
      | inr s ↦
          let own : node_at slots2 id.at ≡ held.body.node = ap (λ (t : Slot). (body_of t).node) node in
          let same : node_eq held.body.node held.body.node ≡ true = (laws held.body.node held.body.node).1 refl in
          subst (λ (i : NodeId). look2 (node_at slots2 i.at) ≡ Some (Ended i)) s (ap look2 own ∙ puts held.body.node ∙ ap (λ b. cond b (Some (Ended id)) (look held.body.node)) same)
    ]

module _ (g : Graph) (slots : List Slot) (order keys : List (Option NodeId)) (whole : IsWhole g slots order keys) (look : Asked → Option Standing) (found : IsFound look slots order) (n : Asked) where
  found_as : (r : Kept) → Has (entries g.edges slots 0 order) r → r.body.node ≡ n → (j : NodeId) × ((look n ≡ Some (Ended j)) × IsNodeAt slots j.at n)
  found_as r h e =
      let i = entry_at g.edges slots 0 order r h in
      let own : node_at slots i.id.at ≡ n = ap (λ (r : Kept). r.body.node) i.is ∙ e in
      (i.id, (ap look (sym own) ∙ found i.place i.id i.there, by (slot_at slots i.id.at) refl i.place (whole.placed.nodes_in.told i.place i.id i.there).0 own))
    where
      by : (t : Slot) {q : ℕ} → slot_at slots q ≡ t → (p : ℕ) → node_place (slot_at slots q) ≡ Some p → node_at slots q ≡ n → IsNodeAt slots q n
      by Free e p t own = let no : None ≡ Some p = ap node_place (sym e) ∙ t in cc
      by (Watch w) e p t own = let no : None ≡ Some p = ap node_place (sym e) ∙ t in cc
      by (Node h) e p t own = record { held = h; slot = e; is = ap (λ (s : Slot). (body_of s).node) (sym e) ∙ own }

  pub new_none : look n ≡ None → IsNew (entries g.edges slots 0 order) n
  new_none none r h e = let f = found_as r h e in none_ended f.0 (sym none ∙ f.1.0)

  pub new_begun : look n ≡ Some Begun → IsNew (entries g.edges slots 0 order) n
  new_begun some r h e = let f = found_as r h e in begun_ended f.0 (sym some ∙ f.1.0)

  pub held_as : (q : ℕ) → IsNodeAt slots q n → IsHeldAs (entries g.edges slots 0 order) q n
  held_as q a =
      let st = whole.placed.nodes_in.stands q a.held.place (ap node_place a.slot) in
      let f = at_entry g.edges slots 0 order a.held.place st.id st.there in
      record {
        entry = kept g.edges slots f.stamp st.id;
        among = f.among;
        id_is = st.is;
        node_is = ap (node_at slots) st.is ∙ ap (λ (s : Slot). (body_of s).node) a.slot ∙ a.is;
      }

pub ok_on : {A E : Type 0} (r : Result A E) (P : Type 0) → IsOk r → OnOk r P → P
ok_on (Ok v) P i p = p
ok_on (Err e) P i p = absurd (no i)
  where
    no : false ≡ true → ⊥
    no h = cc

-- a node with its slot is held, with its body
pub held_with : (g : Graph) (slots : List Slot) (order keys : List (Option NodeId)) → IsWhole g slots order keys → (q : ℕ) (body : Body) → IsBodyAt slots q body → IsHeldWith (entries g.edges slots 0 order) q body
held_with g slots order keys whole q body a =
    let st = whole.placed.nodes_in.stands q a.held.place (ap node_place a.slot) in
    let f = at_entry g.edges slots 0 order a.held.place st.id st.there in
    record {
      entry = kept g.edges slots f.stamp st.id;
      among = f.among;
      id_is = st.is;
      body_is = ap (λ (n : ℕ). body_of (slot_at slots n)) st.is ∙ ap body_of a.slot ∙ a.is;
    }

pub map_match : {A : Type 0} (r : Option A) (P P2 : Type 0) (Q Q2 : A → Type 0) → (P → P2) → ((a : A) → Q a → Q2 a) → MatchOption r P Q → MatchOption r P2 Q2
map_match None P P2 Q Q2 f h m = f m
map_match (Some a) P P2 Q Q2 f h m = h a m
