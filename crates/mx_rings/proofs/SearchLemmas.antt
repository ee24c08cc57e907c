-- What a search keeps as it goes on.
use Rattle.std.proofs.Common.{◌≡◌, ℕ, zero, suc, ◌+◌, ◌<◌, ◌≤◌, List, [], ◌∷◌, ◌++◌, length, drop, get_or, slice_get, slice_set, replicate, Some, None, inl, inr, refl, sym, ◌∙◌, ap, subst, arith, length-set}
use Rattle.std.proofs.lemmas.Option.{same_Some, slice_get_within, slice_get-get_or}
use Rattle.std.proofs.lemmas.List.{length-replicate}
use Rattle.mx_c3.specs.declared.space.SpaceId.{SpaceId}
use Rattle.mx_c3.specs.Lists.{Has, Distinct}
use Rattle.mx_c3.specs.Linearisation.{bases_of, Leads}
use Rattle.mx_c3.proofs.ListLemmas.{has_left, has_right, has_push_cases}
use Rattle.mx_c3.proofs.LinearLemmas.{same_place}
use Rattle.mx_rings.specs.declared.search.Stage.{Stage}
use Rattle.mx_rings.specs.declared.search.Stage.TheVariants.{Unseen, OnWay, Done}
use Rattle.mx_rings.specs.Graph.{IsRing, HasNoRing}
use Rattle.mx_rings.specs.Search.{AreDone, IsWay, Searching, EndsWith, CanEnter}

-- ---- lists

pub set_other : {X : Type 0} (xs : List X) (i j : ℕ) (v : X) → (i ≡ j → ⊥) → slice_get (slice_set xs i v) j ≡ slice_get xs j
set_other [] i j v n = refl
set_other (x ∷ xs) zero zero v n = absurd (n refl)
set_other (x ∷ xs) zero (suc j) v n = refl
set_other (x ∷ xs) (suc i) zero v n = refl
set_other (x ∷ xs) (suc i) (suc j) v n = set_other xs i j v (λ e. n (ap suc e))

pub set_same : {X : Type 0} (xs : List X) (i : ℕ) (v : X) → i < length xs → slice_get (slice_set xs i v) i ≡ Some v
set_same [] i v h = absurd (omega arith)
set_same (x ∷ xs) zero v h = refl
set_same (x ∷ xs) (suc i) v h = set_same xs i v (omega arith)

or_set_other : (xs : List ℕ) (i j v : ℕ) → (i ≡ j → ⊥) → get_or (slice_set xs i v) j 0 ≡ get_or xs j 0
or_set_other [] i j v n = refl
or_set_other (x ∷ xs) zero zero v n = absurd (n refl)
or_set_other (x ∷ xs) zero (suc j) v n = refl
or_set_other (x ∷ xs) (suc i) zero v n = refl
or_set_other (x ∷ xs) (suc i) (suc j) v n = or_set_other xs i j v (λ e. n (ap suc e))

or_set_same : (xs : List ℕ) (i v : ℕ) → i < length xs → get_or (slice_set xs i v) i 0 ≡ v
or_set_same [] i v h = absurd (omega arith)
or_set_same (x ∷ xs) zero v h = refl
or_set_same (x ∷ xs) (suc i) v h = or_set_same xs i v (omega arith)

-- numbers are the same or not
pub data Same (i j : ℕ) : Type 0 where
  Is : i ≡ j → Same i j
  Not : (i ≡ j → ⊥) → Same i j

pred_same : (i j : ℕ) → suc i ≡ suc j → i ≡ j
pred_same i j e = omega arith

pub same_number : (i j : ℕ) → Same i j
same_number zero zero = Is refl
same_number zero (suc j) = Not (λ e. absurd (omega arith))
same_number (suc i) zero = Not (λ e. absurd (omega arith))
same_number (suc i) (suc j) = elim (same_number i j) [ Is e ↦ Is (ap suc e) | Not n ↦ Not (λ e. n (pred_same i j e)) ]

pub below : (i j : ℕ) → i ≤ j → (i ≡ j → ⊥) → i < j
below zero zero l n = absurd (n refl)
below zero (suc j) l n = omega arith
below (suc i) zero l n = absurd (omega arith)
below (suc i) (suc j) l n = let b = below i j (omega arith) (λ e. n (ap suc e)) in omega arith

-- where something stands among a list
pub record PlaceOf {X : Type 0} (xs : List X) (x : X) : Type 0 where
  pub place : ℕ
  pub within : place < length xs
  pub is : slice_get xs place ≡ Some x

pub place_of : {X : Type 0} (xs : List X) (x : X) → Has xs x → PlaceOf xs x
place_of [] x h = absurd h
place_of (y ∷ xs) x h =
    elim h [
      | inl e ↦ record { place = zero; within = omega arith; is = ap Some e }
      | inr r ↦ let p = place_of xs x r in let w : p.place < length xs = p.within in record { place = suc p.place; within = omega arith; is = p.is }
    ]

distinct_push : {X : Type 0} (xs : List X) (x : X) → Distinct xs → (Has xs x → ⊥) → Distinct (xs ++ x ∷ [])
distinct_push [] x d n = (λ h. h, tt)
distinct_push {X} (y ∷ xs) x d n =
    (λ h. elim (has_push_cases xs x y h) [ inl a ↦ d.0 a | inr e ↦ n (inl (sym e)) ], distinct_push xs x d.1 (λ h. n (inr h)))

distinct_front : {X : Type 0} (xs : List X) (x : X) → Distinct (xs ++ x ∷ []) → Distinct xs
distinct_front [] x d = tt
distinct_front {X} (y ∷ xs) x d = (λ h. d.0 (has_left xs (x ∷ []) y h), distinct_front xs x d.1)

distinct_last : {X : Type 0} (xs : List X) (x : X) → Distinct (xs ++ x ∷ []) → Has xs x → ⊥
distinct_last [] x d h = h
distinct_last {X} (y ∷ xs) x d h =
    elim h [ inl e ↦ d.0 (subst (λ z. Has (xs ++ x ∷ []) z) (sym e) (has_right xs (x ∷ []) x (inl refl))) | inr r ↦ distinct_last xs x d.1 r ]

-- ---- ways

ends_front : (x y : SpaceId) (way : List SpaceId) (last : SpaceId) → EndsWith (y ∷ way) last → EndsWith (x ∷ (y ∷ way)) last
ends_front x y way last e = record { front = x ∷ e.front; is = ap (λ (w : List SpaceId). x ∷ w) e.is }

way_push : (graph : List (List SpaceId)) (way : List SpaceId) (x : SpaceId) → IsWay graph way → CanEnter graph way x → IsWay graph (way ++ x ∷ [])
way_push graph [] x w c = tt
way_push graph (y ∷ []) x w c = (c y (record { front = []; is = refl }), tt)
way_push graph (y ∷ (z ∷ way)) x w c = (w.0, way_push graph (z ∷ way) x w.1 (λ last e. c last (ends_front y z way last e)))

way_front : (graph : List (List SpaceId)) (way : List SpaceId) (x : SpaceId) → IsWay graph (way ++ x ∷ []) → IsWay graph way
way_front graph [] x w = tt
way_front graph (y ∷ []) x w = tt
way_front graph (y ∷ (z ∷ way)) x w = (w.0, way_front graph (z ∷ way) x w.1)

-- ---- what is done

done_on : (graph : List (List SpaceId)) (done : List SpaceId) (x y : SpaceId) → AreDone graph done → Has done x → Has (bases_of graph x) y → Has done y
done_on graph [] x y a h s = h
done_on graph (z ∷ done) x y a h s =
    elim h [ inl e ↦ inr (a.0 y (subst (λ (v : SpaceId). Has (bases_of graph v) y) (sym e) s)) | inr r ↦ inr (done_on graph done x y a.1 r s) ]

done_led : (graph : List (List SpaceId)) (done : List SpaceId) (x : SpaceId) (via : List SpaceId) (y : SpaceId) → AreDone graph done → Has done x → Leads graph x via y → Has done y
done_led graph done x [] y a h l = done_on graph done x y a h l
done_led graph done x (z ∷ via) y a h l = done_led graph done z via y a (done_on graph done x z a h l.0) l.1

-- from the first one comes behind it
first_led : (graph : List (List SpaceId)) (x : SpaceId) (done via : List SpaceId) (y : SpaceId) → AreDone graph (x ∷ done) → Leads graph x via y → Has done y
first_led graph x done [] y a l = a.0 y l
first_led graph x done (z ∷ via) y a l = done_led graph done z via y a.1 (a.0 z l.0) l.1

done_ringless : (graph : List (List SpaceId)) (done : List SpaceId) (x : SpaceId) (via : List SpaceId) → AreDone graph done → Has done x → Leads graph x via x → ⊥
done_ringless graph [] x via a h l = h
done_ringless graph (z ∷ done) x via a h l =
    let behind : z ≡ x → Has done x = λ e. first_led graph z done via x a (subst (λ (v : SpaceId). Leads graph v via x) (sym e) l) in
    done_ringless graph done x via a.1 (elim h [ inl e ↦ behind e | inr r ↦ r ]) l

-- ---- the search

unseen_not : (n : ℕ) (x : SpaceId) (stage : Stage) → (Unseen ≡ stage → ⊥) → slice_get (replicate n Unseen) x.0 ≡ Some stage → ⊥
unseen_not n x stage other e = other (unseen_at n x.0 stage e)
  where
    unseen_at : (n i : ℕ) (stage : Stage) → slice_get (replicate n Unseen) i ≡ Some stage → Unseen ≡ stage
    unseen_at zero i stage e = absurd (let f : None ≡ Some stage = e in cc)
    unseen_at (suc n) zero stage e = same_Some Unseen stage e
    unseen_at (suc n) (suc i) stage e = unseen_at n i stage e

abbrev pub none : ℕ
none = 0

zero_at : (n i : ℕ) → get_or (replicate n none) i none ≡ none
zero_at zero i = refl
zero_at (suc n) zero = refl
zero_at (suc n) (suc i) = zero_at n i

pub search_begins : (graph : List (List SpaceId)) → Searching graph (replicate (length graph) Unseen) (replicate (length graph) 0) []
search_begins graph = record {
  stages_long = length-replicate (length graph) Unseen;
  passed_long = length-replicate (length graph) 0;
  done = [];
  in_turn = tt;
  marked = λ x e. unseen_not (length graph) x Done (λ f. cc) e;
  behind = λ x y i l e. let z = zero_at (length graph) x.0 in absurd (omega arith);
  along = tt;
  once = tt;
  here = λ x h. absurd h;
  only = λ x e. unseen_not (length graph) x OnWay (λ f. cc) e;
}

not_same : (x y : SpaceId) → (x ≡ y → ⊥) → x.0 ≡ y.0 → ⊥
not_same x y n e = n (same_place x y e)

module _ (graph : List (List SpaceId)) (stages : List Stage) (passed : List ℕ) (way : List SpaceId) (s : Searching graph stages passed way) where
  -- a vertex that was not seen is put on the way
  pub search_enters : (x : SpaceId) → slice_get stages x.0 ≡ Some Unseen → CanEnter graph way x → Searching graph (slice_set stages x.0 OnWay) passed (way ++ x ∷ [])
  search_enters x unseen can = record {
    stages_long = length-set stages x.0 OnWay ∙ s.stages_long;
    passed_long = s.passed_long;
    done = s.done;
    in_turn = s.in_turn;
    marked = λ y e. s.marked y (old y Done (λ f. let g : OnWay ≡ Done = f in cc) e);
    behind = s.behind;
    along = way_push graph way x s.along can;
    once = distinct_push way x s.once (fresh x refl);
    here = λ y h. elim (has_push_cases way x y h) [
      | inl a ↦ set_other stages x.0 y.0 OnWay (not_same x y (λ e. fresh y (sym e) a)) ∙ s.here y a
      | inr e ↦ subst (λ (z : SpaceId). slice_get (slice_set stages x.0 OnWay) z.0 ≡ Some OnWay) e (set_same stages x.0 OnWay within)
    ];
    only = λ y e. elim (same_number x.0 y.0) [
      | Is f ↦ has_right way (x ∷ []) y (inl (same_place x y f))
      | Not n ↦ has_left way (x ∷ []) y (s.only y (sym (set_other stages x.0 y.0 OnWay n) ∙ e))
    ];
  }
    where
      within : x.0 < length stages
      within = slice_get_within stages x.0 Unseen unseen

      fresh : (y : SpaceId) → y ≡ x → Has way y → ⊥
      fresh y e h = let f : Some OnWay ≡ Some Unseen = sym (s.here y h) ∙ ap (λ (z : SpaceId). slice_get stages z.0) e ∙ unseen in cc

      old : (y : SpaceId) (stage : Stage) → (OnWay ≡ stage → ⊥) → slice_get (slice_set stages x.0 OnWay) y.0 ≡ Some stage → slice_get stages y.0 ≡ Some stage
      old y stage other e = elim (same_number x.0 y.0) [
        | Is f ↦ absurd (other (same_Some OnWay stage (sym (set_same stages x.0 OnWay within) ∙ ap (λ (i : ℕ). slice_get (slice_set stages x.0 OnWay) i) f ∙ e)))
        | Not n ↦ sym (set_other stages x.0 y.0 OnWay n) ∙ e
      ]

  -- a successor of the last vertex that is done is passed
  pub search_passes : (x y : SpaceId) (place : ℕ) → place ≡ get_or passed x.0 0 → x.0 < length passed → slice_get (bases_of graph x) place ≡ Some y → slice_get stages y.0 ≡ Some Done → Searching graph stages (slice_set passed x.0 (place + 1)) way
  search_passes x y place is within at stage = record {
    stages_long = s.stages_long;
    passed_long = length-set passed x.0 (place + 1) ∙ s.passed_long;
    done = s.done;
    in_turn = s.in_turn;
    marked = s.marked;
    behind = λ u v i l e. elim (same_number x.0 u.0) [
      | Is f ↦ at_same u v i f l e
      | Not n ↦ s.behind u v i (let g = or_set_other passed x.0 u.0 (place + 1) n in omega arith) e
    ];
    along = s.along;
    once = s.once;
    here = s.here;
    only = s.only;
  }
    where
      at_same : (u v : SpaceId) (i : ℕ) → x.0 ≡ u.0 → i < get_or (slice_set passed x.0 (place + 1)) u.0 0 → slice_get (bases_of graph u) i ≡ Some v → Has s.done v
      at_same u v i f l e =
          let g = or_set_same passed x.0 (place + 1) within in
          let h : get_or (slice_set passed x.0 (place + 1)) u.0 0 ≡ place + 1 = ap (λ (k : ℕ). get_or (slice_set passed x.0 (place + 1)) k 0) (sym f) ∙ g in
          let m : get_or passed u.0 0 ≡ place = ap (λ (k : ℕ). get_or passed k 0) (sym f) ∙ sym is in
          elim (same_number i place) [
            | Is j ↦
                let same : Some y ≡ Some v = sym at ∙ ap (λ (z : SpaceId). slice_get (bases_of graph z) place) (same_place x u f) ∙ ap (slice_get (bases_of graph u)) (sym j) ∙ e in
                subst (λ (z : SpaceId). Has s.done z) (same_Some y v same) (s.marked y stage)
            | Not n ↦ s.behind u v i (let k : i ≤ place = omega arith in let d : i < place = below i place k n in omega arith) e
          ]

  -- the last vertex of the way is left
  pub search_leaves : (front : List SpaceId) (x : SpaceId) → way ≡ front ++ x ∷ [] → x.0 < length stages → slice_get (bases_of graph x) (get_or passed x.0 0) ≡ None → Searching graph (slice_set stages x.0 Done) passed front
  search_leaves front x ends within all = record {
    stages_long = length-set stages x.0 Done ∙ s.stages_long;
    passed_long = s.passed_long;
    done = x ∷ s.done;
    in_turn = (λ y h. let p = place_of (bases_of graph x) y h in s.behind x y p.place (past p.place (bases_of graph x) (get_or passed x.0 0) all p.within) p.is, s.in_turn);
    marked = λ y e. elim (same_number x.0 y.0) [
      | Is f ↦ inl (same_place x y f)
      | Not n ↦ inr (s.marked y (sym (set_other stages x.0 y.0 Done n) ∙ e))
    ];
    behind = λ u v i l e. inr (s.behind u v i l e);
    along = way_front graph front x (subst (λ (w : List SpaceId). IsWay graph w) ends s.along);
    once = distinct_front front x once;
    here = λ y h. set_other stages x.0 y.0 Done (not_same x y (λ e. distinct_last front x once (subst (λ (z : SpaceId). Has front z) (sym e) h))) ∙
        s.here y (subst (λ (w : List SpaceId). Has w y) (sym ends) (has_left front (x ∷ []) y h));
    only = λ y e. elim (same_number x.0 y.0) [
      | Is f ↦ absurd (left_not y f e)
      | Not n ↦ elim (has_push_cases front x y (subst (λ (w : List SpaceId). Has w y) ends (s.only y (sym (set_other stages x.0 y.0 Done n) ∙ e)))) [
        | inl a ↦ a
        | inr i ↦ absurd (n (ap (λ (z : SpaceId). z.0) i))
      ]
    ];
  }
    where
      once : Distinct (front ++ x ∷ [])
      once = subst (λ (w : List SpaceId). Distinct w) ends s.once

      left_not : (y : SpaceId) → x.0 ≡ y.0 → slice_get (slice_set stages x.0 Done) y.0 ≡ Some OnWay → ⊥
      left_not y f e =
          let g : Some Done ≡ Some OnWay = sym (set_same stages x.0 Done within) ∙ ap (λ (i : ℕ). slice_get (slice_set stages x.0 Done) i) f ∙ e in cc

      past : (i : ℕ) (xs : List SpaceId) (n : ℕ) → slice_get xs n ≡ None → i < length xs → i < n
      past i [] n e l = absurd (omega arith)
      past i (z ∷ xs) zero e l = absurd (let f : Some z ≡ None = e in cc)
      past zero (z ∷ xs) (suc n) e l = omega arith
      past (suc i) (z ∷ xs) (suc n) e l = let r : i < n = past i xs n e (omega arith) in omega arith

  -- with no way left all that was seen is done
  seen_done : way ≡ [] → (x : SpaceId) → x.0 < length graph → (slice_get stages x.0 ≡ Some Unseen → ⊥) → Has s.done x
  seen_done ends x within seen = by_stage (get_or stages x.0 Unseen) (slice_get-get_or stages x.0 Unseen (let l = s.stages_long in omega arith))
    where
      by_stage : (stage : Stage) → slice_get stages x.0 ≡ Some stage → Has s.done x
      by_stage Unseen e = absurd (seen e)
      by_stage OnWay e = absurd (subst (λ (w : List SpaceId). Has w x) ends (s.only x e))
      by_stage Done e = s.marked x e

  pub search_ends : way ≡ [] → ((x : SpaceId) → x.0 < length graph → slice_get stages x.0 ≡ Some Unseen → ⊥) → HasNoRing graph
  search_ends ends seen x r = done_ringless graph s.done x r.via s.in_turn (seen_done ends x (begins x r.via x r.leads) (seen x (begins x r.via x r.leads))) r.leads
    where
      has_bases : (lists : List (List SpaceId)) (i : ℕ) (y : SpaceId) → Has (get_or lists i []) y → i < length lists
      has_bases [] i y h = absurd h
      has_bases (l ∷ lists) zero y h = omega arith
      has_bases (l ∷ lists) (suc i) y h = let r = has_bases lists i y h in omega arith

      begins : (a : SpaceId) (via : List SpaceId) (b : SpaceId) → Leads graph a via b → a.0 < length graph
      begins a [] b l = has_bases graph a.0 b l
      begins a (z ∷ via) b l = has_bases graph a.0 z l.0

-- ---- rings

way_leads : (graph : List (List SpaceId)) (x : SpaceId) (way front : List SpaceId) (last to : SpaceId) → IsWay graph (x ∷ way) → x ∷ way ≡ front ++ last ∷ [] → Has (bases_of graph last) to → Leads graph x way to
way_leads graph x [] [] last to w e h = let f : x ≡ last = cc in subst (λ (z : SpaceId). Has (bases_of graph z) to) (sym f) h
way_leads graph x [] (y ∷ []) last to w e h = absurd (let f : [] ≡ last ∷ [] = cc in cc)
way_leads graph x [] (y ∷ (z ∷ front)) last to w e h = absurd (let f : [] ≡ z ∷ (front ++ last ∷ []) = cc in cc)
way_leads graph x (z ∷ way) [] last to w e h = absurd (let f : z ∷ way ≡ [] = cc in cc)
way_leads graph x (z ∷ way) (y ∷ front) last to w e h = let f : z ∷ way ≡ front ++ last ∷ [] = cc in (w.0, way_leads graph z way front last to w.1 f h)

way_rest : (graph : List (List SpaceId)) (x : SpaceId) (way : List SpaceId) → IsWay graph (x ∷ way) → IsWay graph way
way_rest graph x [] w = tt
way_rest graph x (y ∷ way) w = w.1

-- the way from a vertex on to which its last one leads back is a ring
pub ring_from : (graph : List (List SpaceId)) (way front : List SpaceId) (last to : SpaceId) (place : ℕ) → IsWay graph way → Distinct way → way ≡ front ++ last ∷ [] → Has (bases_of graph last) to → slice_get way place ≡ Some to → IsRing graph (drop place way)
ring_from graph [] front last to place w d e h at = absurd (let f : None ≡ Some to = at in cc)
ring_from graph (x ∷ way) front last to zero w d e h at =
    let same = same_Some x to at in
    (d, way_leads graph x way front last x w e (subst (λ (z : SpaceId). Has (bases_of graph last) z) (sym same) h))
ring_from graph (x ∷ way) [] last to (suc place) w d e h at = let f : way ≡ [] = cc in absurd (let g : None ≡ Some to = ap (λ (l : List SpaceId). slice_get l place) (sym f) ∙ at in cc)
ring_from graph (x ∷ way) (y ∷ front) last to (suc place) w d e h at = let f : way ≡ front ++ last ∷ [] = cc in ring_from graph way front last to place (way_rest graph x way w) d.1 f h at
