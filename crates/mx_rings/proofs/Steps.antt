-- The steps of a search.
use Rattle.std.proofs.Common.{◌≡◌, ℕ, zero, suc, ◌+◌, ◌<◌, ◌≤◌, List, [], ◌∷◌, ◌++◌, length, get_or, slice_get, slice_set, Some, None, inl, inr, refl, sym, ◌∙◌, ap, subst, arith}
use Rattle.std.proofs.lemmas.Option.{same_Some, slice_get_within}
use Rattle.mx_c3.specs.declared.space.SpaceId.{SpaceId}
use Rattle.mx_c3.specs.Lists.{Has}
use Rattle.mx_c3.specs.Linearisation.{bases_of}
use Rattle.mx_c3.proofs.ListLemmas.{has_right, among_at}
use Rattle.mx_rings.specs.declared.search.Stage.{Stage}
use Rattle.mx_rings.specs.declared.search.Stage.TheVariants.{Unseen, OnWay, Done}
use Rattle.mx_rings.specs.declared.search.Search.{Search}
use Rattle.mx_rings.specs.declared.search.Turn.TheVariants as turn
use Rattle.mx_rings.specs.Graph.{IsRing, HasNoRing, IsClosed}
use Rattle.mx_rings.specs.Search.{Searching, IsSearch, IsSeen, KeepsSeen, EndsWith, CanEnter, Moves, Passes, LeadsBack, IsStep, IsFrom, stage_of}
use Rattle.mx_rings.proofs.SearchLemmas.{Same, Is, Not, same_number, below, search_enters, search_passes, search_leaves, search_ends, ring_from}

slice_has : {X : Type 0} (xs : List X) (i : ℕ) (x : X) → slice_get xs i ≡ Some x → Has xs x
slice_has [] i x e = absurd (let f : None ≡ Some x = e in cc)
slice_has (y ∷ xs) zero x e = inl (same_Some y x e)
slice_has {X} (y ∷ xs) (suc i) x e = inr (slice_has xs i x e)

module _ (graph : List (List SpaceId)) (s : Search) (search : IsSearch graph s) where
  pub on_way : (x : SpaceId) → Has s.way.items x → x.0 < length graph
  on_way x h = let l = slice_get_within s.stages.items x.0 OnWay (search.here x h) in let e = search.stages_long in omega arith

  pub last_within : (last : SpaceId) → EndsWith s.way.items last → last.0 < length graph
  last_within last e = on_way last (subst (λ (w : List SpaceId). Has w last) (sym e.is) (has_right e.front (last ∷ []) last (inl refl)))

  pub next_among : (last next : SpaceId) (place : ℕ) → slice_get (bases_of graph last) place ≡ Some next → Has (bases_of graph last) next
  next_among last next place e = slice_has (bases_of graph last) place next e

  pub next_within : IsClosed graph → (last next : SpaceId) (place : ℕ) → EndsWith s.way.items last → slice_get (bases_of graph last) place ≡ Some next → next.0 < length graph
  next_within closed last next place ends e = closed next (among_at graph last.0 [] next (last_within last ends) (next_among last next place e))

-- only what was not seen has that stage where another one is set
unset : (stages : List Stage) (i j : ℕ) (stage : Stage) → slice_get (slice_set stages i stage) j ≡ Some Unseen → (slice_get stages j ≡ Some Unseen → ⊥) → stage ≡ Unseen
unset [] i j stage e seen = absurd (seen e)
unset (z ∷ zs) zero zero stage e seen = same_Some stage Unseen e
unset (z ∷ zs) zero (suc j) stage e seen = absurd (seen e)
unset (z ∷ zs) (suc i) zero stage e seen = absurd (seen e)
unset (z ∷ zs) (suc i) (suc j) stage e seen = unset zs i j stage e seen

kept : (x : SpaceId) (stage : Stage) (onward : List SpaceId) (old new : Search) → (stage ≡ Unseen → ⊥) → Moves x stage onward old new → KeepsSeen old new
kept x stage onward old new other m y seen e = other (unset old.stages.items x.0 y.0 stage (ap (λ (z : List Stage). slice_get z y.0) (sym m.stages) ∙ e) seen)

moved : (graph : List (List SpaceId)) (x : SpaceId) (stage : Stage) (onward : List SpaceId) (old new : Search) → Moves x stage onward old new → Searching graph (slice_set old.stages.items x.0 stage) old.passed.items onward → IsSearch graph new
moved graph x stage onward old new m s =
    let P : List Stage → Type 0 = λ z. Searching graph z old.passed.items onward in
    let Q : List ℕ → Type 0 = λ z. Searching graph new.stages.items z onward in
    let R : List SpaceId → Type 0 = λ z. Searching graph new.stages.items new.passed.items z in
    subst R (sym m.way) (subst Q (sym m.passed) (subst P (sym m.stages) s))

pub entered : (graph : List (List SpaceId)) (x : SpaceId) (old new : Search) → IsSearch graph old → stage_of old x ≡ Some Unseen → CanEnter graph old.way.items x → Moves x OnWay (old.way.items ++ x ∷ []) old new → IsStep graph old new turn.Further
entered graph x old new s unseen can m = record {
  search = moved graph x OnWay (old.way.items ++ x ∷ []) old new m (search_enters graph old.stages.items old.passed.items old.way.items s x unseen can);
  seen = kept x OnWay (old.way.items ++ x ∷ []) old new (λ e. let f : OnWay ≡ Unseen = e in cc) m;
  comes = tt;
}

pub entered_seen : (graph : List (List SpaceId)) (x : SpaceId) (way : List SpaceId) (old new : Search) → IsSearch graph new → Moves x OnWay (way ++ x ∷ []) old new → IsSeen new x
entered_seen graph x way old new s m e =
    let h = subst (λ (w : List SpaceId). Has w x) (sym m.way) (has_right way (x ∷ []) x (inl refl)) in
    let f : Some OnWay ≡ Some Unseen = sym (s.here x h) ∙ e in cc

pub left : (graph : List (List SpaceId)) (x : SpaceId) (old new : Search) → IsSearch graph old → (ends : EndsWith old.way.items x) → None ≡ slice_get (bases_of graph x) (get_or old.passed.items x.0 0) → Moves x Done ends.front old new → IsStep graph old new turn.Further
left graph x old new s ends none m = record {
  search = moved graph x Done ends.front old new m (search_leaves graph old.stages.items old.passed.items old.way.items s ends.front x ends.is (slice_get_within old.stages.items x.0 OnWay (s.here x on)) (sym none));
  seen = kept x Done ends.front old new (λ e. let f : Done ≡ Unseen = e in cc) m;
  comes = tt;
}
  where
    on : Has old.way.items x
    on = subst (λ (w : List SpaceId). Has w x) (sym ends.is) (has_right ends.front (x ∷ []) x (inl refl))

pub passed_one : (graph : List (List SpaceId)) (x next : SpaceId) (old new : Search) → IsSearch graph old → x.0 < length old.passed.items → slice_get (bases_of graph x) (get_or old.passed.items x.0 0) ≡ Some next → stage_of old next ≡ Some Done → Passes x old new → IsStep graph old new turn.Further
passed_one graph x next old new s within at stage p =
    let searching = search_passes graph old.stages.items old.passed.items old.way.items s x next (get_or old.passed.items x.0 0) refl within at stage in
    let P : List Stage → Type 0 = λ z. Searching graph z (slice_set old.passed.items x.0 (get_or old.passed.items x.0 0 + 1)) old.way.items in
    let Q : List ℕ → Type 0 = λ z. Searching graph new.stages.items z old.way.items in
    let R : List SpaceId → Type 0 = λ z. Searching graph new.stages.items new.passed.items z in
    record {
      search = subst R (sym p.way) (subst Q (sym p.passed) (subst P (sym p.stages) searching));
      seen = λ y seen e. seen (ap (λ (z : List Stage). slice_get z y.0) (sym p.stages) ∙ e);
      comes = tt;
    }

pub back : (graph : List (List SpaceId)) (s : Search) (last next : SpaceId) (place : ℕ) → IsSearch graph s → EndsWith s.way.items last → slice_get (bases_of graph last) place ≡ Some next → stage_of s next ≡ Some OnWay → IsStep graph s s (turn.Back next)
back graph s last next place search ends at stage = record {
  search = search;
  seen = λ y seen e. seen e;
  comes = record { among = search.only next stage; last = last; ends = ends; leads = next_among graph s search last next place at };
}

ends_once : (way front : List SpaceId) (a b : SpaceId) → EndsWith way a → EndsWith way b → a ≡ b
ends_once way front a b e f = last_same e.front f.front a b (sym e.is ∙ f.is)
  where
    last_same : (xs ys : List SpaceId) (a b : SpaceId) → xs ++ a ∷ [] ≡ ys ++ b ∷ [] → a ≡ b
    last_same [] [] a b e = cc
    last_same [] (y ∷ []) a b e = absurd (let f : [] ≡ b ∷ [] = cc in cc)
    last_same [] (y ∷ (z ∷ ys)) a b e = absurd (let f : [] ≡ z ∷ (ys ++ b ∷ []) = cc in cc)
    last_same (x ∷ []) [] a b e = absurd (let f : a ∷ [] ≡ [] = cc in cc)
    last_same (x ∷ (z ∷ xs)) [] a b e = absurd (let f : z ∷ (xs ++ a ∷ []) ≡ [] = cc in cc)
    last_same (x ∷ xs) (y ∷ ys) a b e = last_same xs ys a b (let f : xs ++ a ∷ [] ≡ ys ++ b ∷ [] = cc in f)

-- a successor of the last vertex can go on the way
pub can_enter : (graph : List (List SpaceId)) (s : Search) (last next : SpaceId) (place : ℕ) → IsSearch graph s → EndsWith s.way.items last → slice_get (bases_of graph last) place ≡ Some next → CanEnter graph s.way.items next
can_enter graph s last next place search ends at other e =
    subst (λ (z : SpaceId). Has (bases_of graph z) next) (ends_once s.way.items [] last other ends e) (next_among graph s search last next place at)

-- and any vertex where there is no way yet
pub can_begin : (graph : List (List SpaceId)) (way : List SpaceId) (x : SpaceId) → way ≡ [] → CanEnter graph way x
can_begin graph way x e last ends = absurd (no_end ends.front (sym e ∙ ends.is))
  where
    no_end : (xs : List SpaceId) → [] ≡ xs ++ last ∷ [] → ⊥
    no_end [] e = let f : [] ≡ last ∷ [] = e in cc
    no_end (x ∷ xs) e = let f : [] ≡ x ∷ (xs ++ last ∷ []) = e in cc

-- the rest of the way from the vertex that one came back to is a ring
pub back_ring : (graph : List (List SpaceId)) (s : Search) (to : SpaceId) (rest : List SpaceId) → IsSearch graph s → LeadsBack graph s.way.items to → IsFrom s.way.items to rest → IsRing graph rest
back_ring graph s to rest search b f =
    subst (λ (r : List SpaceId). IsRing graph r) (sym f.is) (ring_from graph s.way.items b.ends.front b.last to f.place search.along search.once b.ends.is b.leads f.at)

-- with all seen there is no ring
pub all_seen : (graph : List (List SpaceId)) (s : Search) → IsSearch graph s → s.way.items ≡ [] → ((x : SpaceId) → x.0 < length graph → IsSeen s x) → HasNoRing graph
all_seen graph s search empty seen = search_ends graph s.stages.items s.passed.items s.way.items search empty seen

-- one more vertex is seen
pub seen_next : (s : Search) (place : ℕ) → ((x : SpaceId) → x.0 < place → IsSeen s x) → IsSeen s (record { 0 = place }) → (x : SpaceId) → x.0 < place + 1 → IsSeen s x
seen_next s place before last x l e = by_cases (same_number x.0 place)
  where
    by_cases : Same x.0 place → ⊥
    by_cases (Is f) = last (ap (λ (i : ℕ). slice_get s.stages.items i) (sym f) ∙ e)
    by_cases (Not n) = before x (below x.0 place (let k : x.0 ≤ place = omega arith in k) n) e
