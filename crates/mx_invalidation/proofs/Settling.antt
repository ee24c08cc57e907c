-- A list without its free places, and vertices that are told their new ones.
use Rattle.std.proofs.Common.{◌≡◌, ◌∙◌, ℕ, ◌+◌, ◌<◌, suc, zero, true, false, cond, eqb, List, [], ◌∷◌, length, Option, Some, None, is_some, refl, sym, ap, subst, arith, inl, inr}
use Rattle.std.specs.Prelude.{filter}
use Rattle.std.proofs.lemmas.Bool.{eqb-true, eq-eqb}
use Rattle.std.proofs.lemmas.List.{get_or_past}
use Rattle.std.proofs.Math.ListN.{get_or}
use Rattle.mx_graph.specs.declared.ids.NodeId.{NodeId}
use Rattle.mx_vertices.specs.declared.slot.Held.{Held}
use Rattle.mx_vertices.specs.declared.slot.Slot.{Slot}
use Rattle.mx_vertices.specs.declared.slot.Watched.{Watched}
use Rattle.mx_vertices.specs.declared.slot.Slot.TheVariants.{Free, Node, Watch}
use Rattle.mx_vertices.specs.Places.{slot_at, at, with_place, IsAlike, Has, StandOnce, IsSettled}
use Rattle.mx_vertices.specs.Kept.{body_of, source_in, IsNode}
use Rattle.mx_vertices.proofs.Places.{at_below, same_or, at_has}

placed_twice : (p n : ℕ) (s : Slot) → with_place p (with_place n s) ≡ with_place p s
placed_twice p n Free = refl
placed_twice p n (Node h) = refl
placed_twice p n (Watch w) = refl

pub alike_moved : (s t : Slot) (n : ℕ) → IsAlike s t → IsAlike s (with_place n t)
alike_moved s t n a p = placed_twice p n t ∙ a p

module _ (s t : Slot) (a : IsAlike s t) where
  body_placed : (u : Slot) → body_of u ≡ body_of (with_place 0 u)
  body_placed Free = refl
  body_placed (Node h) = refl
  body_placed (Watch w) = refl

  pub alike_body : body_of t ≡ body_of s
  alike_body = body_placed t ∙ ap body_of (a 0) ∙ sym (body_placed s)

  source_placed : (q : ℕ) (u : Slot) → source_in q u ≡ source_in q (with_place 0 u)
  source_placed q Free = refl
  source_placed q (Node h) = refl
  source_placed q (Watch w) = refl

  pub alike_source : (q : ℕ) → source_in q t ≡ source_in q s
  alike_source q = source_placed q t ∙ ap (source_in q) (a 0) ∙ sym (source_placed q s)

  node_placed : (u : Slot) → IsNode u ≡ IsNode (with_place 0 u)
  node_placed Free = refl
  node_placed (Node h) = refl
  node_placed (Watch w) = refl

  pub alike_node : IsNode t ≡ IsNode s
  alike_node = node_placed t ∙ ap IsNode (a 0) ∙ sym (node_placed s)

  free_placed : (u : Slot) → with_place 0 u ≡ Free → u ≡ Free
  free_placed Free e = refl
  free_placed (Node h) e = cc
  free_placed (Watch w) e = cc

  pub alike_free : t ≡ Free → s ≡ Free
  alike_free e = free_placed s (sym (a 0) ∙ ap (with_place 0) e)

  watch_placed : (w : Watched) (u : Slot) → Watch (record w { place = 0 }) ≡ with_place 0 u → (v : Watched) × (u ≡ Watch v) × (v.key ≡ w.key)
  watch_placed w Free e = cc
  watch_placed w (Node h) e = cc
  watch_placed w (Watch v) e = let same : record w { place = 0 } ≡ record v { place = 0 } = cc in (v, refl, sym (ap (λ (x : Watched). x.key) same))

  pub alike_watch : (w : Watched) → t ≡ Watch w → (v : Watched) × (s ≡ Watch v) × (v.key ≡ w.key)
  alike_watch w e = watch_placed w s (sym (ap (with_place 0) e) ∙ a 0)

  held_placed : (h : Held) (u : Slot) → with_place 0 u ≡ Node (record h { place = 0 }) → (h2 : Held) × (u ≡ Node h2) × (h2.body ≡ h.body)
  held_placed h Free e = cc
  held_placed h (Node h2) e = let same : record h2 { place = 0 } ≡ record h { place = 0 } = cc in (h2, refl, ap (λ (x : Held). x.body) same)
  held_placed h (Watch w) e = cc

  pub alike_held : (h : Held) → s ≡ Node h → (h2 : Held) × (t ≡ Node h2) × (h2.body ≡ h.body)
  alike_held h e = held_placed h t (a 0 ∙ ap (with_place 0) e)

pub has_there : (list : List (Option NodeId)) (p : ℕ) (id : NodeId) → at list p ≡ Some id → Has list (Some id)
has_there [] p id e = let l = at_below [] p id e in absurd (omega (arith, l))
has_there (o ∷ list) zero id e = inl e
has_there (o ∷ list) (suc p) id e = inr (has_there list p id e)

pub once_of : (place : Slot → Option ℕ) (slots : List Slot) (k : ℕ) (list : List (Option NodeId)) → ((p : ℕ) (id : NodeId) → at list p ≡ Some id → place (slot_at slots id.at) ≡ Some (k + p)) → StandOnce list
once_of place slots k [] h = tt
once_of place slots k (None ∷ list) h = once_of place slots (k + 1) list (λ p id e. h (suc p) id e ∙ ap Some (omega arith))
once_of place slots k (Some i ∷ list) h = (
  λ j n s.
      let f = at_has list j n in
      let both : Some (k + 0) ≡ Some (k + suc f.0) = sym (h 0 i refl) ∙ ap (λ q. place (slot_at slots q)) s ∙ h (suc f.0) j f.1 in
      let same : k + 0 ≡ k + suc f.0 = cc in
      absurd (omega (arith, same)),
  once_of place slots (k + 1) list (λ p id e. h (suc p) id e ∙ ap Some (omega arith)),
)

abbrev pub taken : List (Option NodeId) → List (Option NodeId)
taken list = filter is_some list

pub has_taken : (list : List (Option NodeId)) (id : NodeId) → Has list (Some id) → Has (taken list) (Some id)
has_taken [] id h = absurd h
has_taken (None ∷ list) id h = elim h [ inl e ↦ cc | inr i ↦ has_taken list id i ]
has_taken (Some j ∷ list) id h = elim h [ inl e ↦ inl e | inr i ↦ inr (has_taken list id i) ]

pub has_untaken : (list : List (Option NodeId)) (id : NodeId) → Has (taken list) (Some id) → Has list (Some id)
has_untaken [] id h = absurd h
has_untaken (None ∷ list) id h = inr (has_untaken list id h)
has_untaken (Some j ∷ list) id h = elim h [ inl e ↦ inl e | inr i ↦ inr (has_untaken list id i) ]

pub once_taken : (list : List (Option NodeId)) → StandOnce list → StandOnce (taken list)
once_taken [] o = tt
once_taken (None ∷ list) o = once_taken list o
once_taken (Some i ∷ list) o = (λ j h. o.0 j (has_untaken list j h), once_taken list o.1)

pub once_at : (list : List (Option NodeId)) → StandOnce list → (p r : ℕ) (i j : NodeId) → at list p ≡ Some i → at list r ≡ Some j → i.at ≡ j.at → p ≡ r
once_at [] o p r i j a b e = let l = at_below [] p i a in absurd (omega (arith, l))
once_at (None ∷ list) o zero r i j a b e = cc
once_at (None ∷ list) o (suc p) zero i j a b e = cc
once_at (None ∷ list) o (suc p) (suc r) i j a b e = ap suc (once_at list o p r i j a b e)
once_at (Some x ∷ list) o zero zero i j a b e = refl
once_at (Some x ∷ list) o zero (suc r) i j a b e = let s : x ≡ i = cc in absurd (o.0 j (has_there list r j b) (ap (λ (n : NodeId). n.at) s ∙ e))
once_at (Some x ∷ list) o (suc p) zero i j a b e = let s : x ≡ j = cc in absurd (o.0 i (has_there list p i a) (ap (λ (n : NodeId). n.at) s ∙ sym e))
once_at (Some x ∷ list) o (suc p) (suc r) i j a b e = ap suc (once_at list o.1 p r i j a b e)

-- the first n of the list are told their places
pub record IsSettling (slots slots2 : List Slot) (list : List (Option NodeId)) (n : ℕ) : Type 0 where
  pub alike : (q : ℕ) → IsAlike (slot_at slots q) (slot_at slots2 q)
  pub told : (p : ℕ) (id : NodeId) → p < n → at list p ≡ Some id → slot_at slots2 id.at ≡ with_place p (slot_at slots id.at)
  pub others : (q : ℕ) → ((p : ℕ) (id : NodeId) → p < n → at list p ≡ Some id → id.at ≡ q → ⊥) → slot_at slots2 q ≡ slot_at slots q

pub settling_none : (slots : List Slot) (list : List (Option NodeId)) → IsSettling slots slots list 0
settling_none slots list = record { alike = λ q p. refl; told = λ p id l e. absurd (omega (arith, l)); others = λ q n. refl }

pub settling_free : (slots slots2 : List Slot) (list : List (Option NodeId)) (n : ℕ) → at list n ≡ None → IsSettling slots slots2 list n → IsSettling slots slots2 list (n + 1)
settling_free slots slots2 list n none s = record {
  alike = s.alike;
  told = λ p id l e. elim (same_or p n) [ inl i ↦ let o : at list p ≡ None = ap (at list) i ∙ none in cc | inr i ↦ s.told p id (omega (arith, l, i)) e ];
  others = λ q h. s.others q (λ p id l e i. h p id (omega (arith, l)) e i);
}

pub settling_next : (slots slots2 slots3 : List Slot) (list : List (Option NodeId)) (n : ℕ) (id : NodeId) → StandOnce list → at list n ≡ Some id → ((q : ℕ) → slot_at slots3 q ≡ cond (eqb id.at q) (with_place n (slot_at slots2 q)) (slot_at slots2 q)) → IsSettling slots slots2 list n → IsSettling slots slots3 list (n + 1)
settling_next slots slots2 slots3 list n id once there set s = record {
  alike = λ q.
      elim (eqb id.at q) as (λ b. eqb id.at q ≡ b → IsAlike (slot_at slots q) (slot_at slots3 q)) [
        | true ↦ λ t. subst (IsAlike (slot_at slots q)) (sym (set q ∙ ap (λ b. cond b (with_place n (slot_at slots2 q)) (slot_at slots2 q)) t)) (alike_moved (slot_at slots q) (slot_at slots2 q) n (s.alike q))
        | false ↦ λ t. subst (IsAlike (slot_at slots q)) (sym (set q ∙ ap (λ b. cond b (with_place n (slot_at slots2 q)) (slot_at slots2 q)) t)) (s.alike q)
      ] refl;
  told = λ p j l e.
      elim (same_or p n) [
        | inl i ↦
            let both : Some j ≡ Some id = sym e ∙ ap (at list) i ∙ there in
            let same : id ≡ j = cc in
            let free : slot_at slots2 id.at ≡ slot_at slots id.at = s.others id.at (λ r k l f m. let same = once_at list once r n k id f there m in omega (arith, l, same)) in
            let here : slot_at slots3 id.at ≡ with_place n (slot_at slots id.at) = set id.at ∙ ap (λ b. cond b (with_place n (slot_at slots2 id.at)) (slot_at slots2 id.at)) (eq-eqb id.at id.at refl) ∙ ap (with_place n) free in
            subst (λ (k : NodeId). slot_at slots3 k.at ≡ with_place p (slot_at slots k.at)) same (subst (λ k. slot_at slots3 id.at ≡ with_place k (slot_at slots id.at)) (sym i) here)
        | inr i ↦ other j.at (λ m. i (once_at list once p n j id e there (sym m))) ∙ s.told p j (omega (arith, l, i)) e
      ];
  others = λ q h. other q (λ m. h n id (omega arith) there m) ∙ s.others q (λ p j l e i. h p j (omega (arith, l)) e i);
}
  where
    other : (q : ℕ) → (id.at ≡ q → ⊥) → slot_at slots3 q ≡ slot_at slots2 q
    other q m = set q ∙ elim (eqb id.at q) as (λ b. eqb id.at q ≡ b → cond b (with_place n (slot_at slots2 q)) (slot_at slots2 q) ≡ slot_at slots2 q) [ true ↦ λ t. absurd (m (eqb-true id.at q t)) | false ↦ λ t. refl ] refl

pub settling_all : (slots slots2 : List Slot) (list : List (Option NodeId)) (n : ℕ) → n ≡ length list → IsSettling slots slots2 list n → IsSettled slots slots2 list
settling_all slots slots2 list n all s = record {
  alike = s.alike;
  told = λ p id e. let l = at_below list p id e in s.told p id (omega (arith, l, all)) e;
  others = λ q h. s.others q (λ p id l e i. h p id e i);
}

-- a vertex that is there has its place in the slots
pub slot_below : (slots : List Slot) (q : ℕ) → (slot_at slots q ≡ Free → ⊥) → q < length slots
slot_below [] q n = absurd (n (get_or_past {X = Slot} [] q Free (omega arith)))
slot_below (s ∷ slots) zero n = omega arith
slot_below (s ∷ slots) (suc q) n = let l = slot_below slots q n in omega (arith, l)

-- what is at a place within the list
pub at_index : (list : List (Option NodeId)) (p : ℕ) (d : Option NodeId) → p < length list → get_or list p d ≡ at list p
at_index [] p d l = absurd (omega (arith, l))
at_index (o ∷ list) zero d l = refl
at_index (o ∷ list) (suc p) d l = at_index list p d (omega (arith, l))
