-- What is still to come of a walk along edges.
use Rattle.std.proofs.Common.{◌≡◌, ◌∙◌, ℕ, Bool, true, false, cond, eqb, List, [], ◌∷◌, length, map as map_list, Option, Some, None, is_some, refl, sym, ap, subst, arith}
use Rattle.std.specs.Prelude.{filter, IfSome, IsSome}
use Rattle.std.specs.Iterator.{MakesProgress, at_most}
use Rattle.std.proofs.lemmas.Bool.{eqb-true}
use Rattle.mx_graph.specs.declared.ids.NodeId.{NodeId}
use Rattle.mx_graph.specs.declared.ids.EdgeId.{EdgeId}
use Rattle.mx_graph.specs.Relation.{Entry, find, first_in, next_in, after, IsApart}
use Rattle.mx_vertices.specs.declared.slot.Slot.{Slot}
use Rattle.mx_vertices.specs.declared.slot.Slot.TheVariants.{Free, Node, Watch}
use Rattle.mx_vertices.specs.Places.{slot_at}
use Rattle.mx_vertices.specs.Kept.{source_in}
use Rattle.mx_vertices.specs.Held.{sources_of}
use Rattle.mx_vertices.specs.Reading.{asks_in, id_at}
use Rattle.mx_vertices.specs.Walks.{edges_from, still, if_asked, asks_among}

same : (n : ℕ) → eqb n n ≡ true
same n = grind arith

if_some : {A : Type 0} (o : Option A) (P Q : A → Type 0) → ((a : A) → P a → Q a) → IfSome o P → IfSome o Q
if_some None P Q f p = tt
if_some (Some a) P Q f p = f a p

found_behind : (x : Entry) (es : List Entry) (q : ℕ) → IsSome (find q es) → IsSome (find q (x ∷ es))
found_behind x es q h = elim (eqb x.id.at q) as (λ b. IsSome (cond b (Some x) (find q es))) [ true ↦ refl | false ↦ h ]

found_after : (es : List Entry) (q k : ℕ) → IsSome (find k (after q es)) → IsSome (find k es)
found_after [] q k h = h
found_after (x ∷ es) q k h =
    elim (eqb x.id.at q) as (λ b. IsSome (find k (cond b es (after q es))) → IsSome (find k (x ∷ es))) [
      | true ↦ λ i. found_behind x es k i
      | false ↦ λ i. found_behind x es k (found_after es q k i)
    ] h

-- the first that passes is there
pub first_there : (p : Entry → Bool) (es : List Entry) → IfSome (first_in p es) (λ i. IsSome (find i.at es))
first_there p [] = tt
first_there p (x ∷ es) =
    elim (p x) as (λ b. IfSome (cond b (Some x.id) (first_in p es)) (λ i. IsSome (find i.at (x ∷ es)))) [
      | true ↦ ap (λ b. is_some (cond b (Some x) (find x.id.at es))) (same x.id.at)
      | false ↦ if_some (first_in p es) (λ i. IsSome (find i.at es)) (λ i. IsSome (find i.at (x ∷ es))) (λ i h. found_behind x es i.at h) (first_there p es)
    ]

module _ (side : Entry → NodeId) where
  abbrev pub by : ℕ → Entry → Bool
  by n e = eqb (side e).at n

  -- an edge in front of all that are still to come
  still_behind : (x : Entry) (es : List Entry) (o : Option EdgeId) → find x.id.at es ≡ None → IfSome o (λ i. IsSome (find i.at es)) → still side o (x ∷ es) ≡ still side o es
  still_behind x es None apart h = refl
  still_behind x es (Some i) apart h =
      elim (eqb x.id.at i.at) as (λ b. eqb x.id.at i.at ≡ b → cond b (x ∷ filter (by (side x).at) es) (edges_from side i.at es) ≡ edges_from side i.at es) [
        | true ↦ λ t. let no : false ≡ true = sym (ap (λ (o : Option Entry). is_some o) (ap (λ q. find q es) (sym (eqb-true x.id.at i.at t)) ∙ apart)) ∙ h in cc
        | false ↦ λ t. refl
      ] refl

  -- from the first edge of a vertex on all of them are to come
  pub still_first : (edges : List Entry) → IsApart edges → (id : NodeId) → still side (first_in (by id.at) edges) edges ≡ filter (by id.at) edges
  still_first [] apart id = refl
  still_first (x ∷ es) apart id =
      elim (by id.at x) as (λ b. by id.at x ≡ b → still side (cond b (Some x.id) (first_in (by id.at) es)) (x ∷ es) ≡ cond b (x ∷ filter (by id.at) es) (filter (by id.at) es)) [
        | true ↦ λ t.
            ap (λ b. cond b (x ∷ filter (by (side x).at) es) (edges_from side x.id.at es)) (same x.id.at)
            ∙ ap (λ n. x ∷ filter (by n) es) (eqb-true (side x).at id.at t)
        | false ↦ λ t. still_behind x es (first_in (by id.at) es) apart.0 (first_there (by id.at) es) ∙ still_first es apart.1 id
      ] refl

  -- what comes is an edge, and then what is still to come from the next on
  pub still_next : (edges : List Entry) → IsApart edges → (q : ℕ) (e : Entry) → find q edges ≡ Some e → edges_from side q edges ≡ e ∷ still side (next_in (by (side e).at) q edges) edges
  still_next [] apart q e f = cc
  still_next (x ∷ es) apart q e f =
      elim (eqb x.id.at q) as (λ b. cond b (Some x) (find q es) ≡ Some e → cond b (x ∷ filter (by (side x).at) es) (edges_from side q es) ≡ e ∷ still side (first_in (by (side e).at) (cond b es (after q es))) (x ∷ es)) [
        | true ↦ λ s.
            let is : x ≡ e = cc in
            subst (λ (y : Entry). x ∷ filter (by (side x).at) es ≡ y ∷ still side (first_in (by (side y).at) es) (x ∷ es)) is
            (ap (λ (ys : List Entry). x ∷ ys) (sym (still_behind x es (first_in (by (side x).at) es) apart.0 (first_there (by (side x).at) es) ∙ still_first es apart.1 (side x))))
        | false ↦ λ s.
            still_next es apart.1 q e s
            ∙ ap (λ (ys : List Entry). e ∷ ys) (sym (still_behind x es (next_in (by (side e).at) q es) apart.0 (if_some (next_in (by (side e).at) q es) (λ i. IsSome (find i.at (after q es))) (λ i. IsSome (find i.at es)) (λ i h. found_after es q i.at h) (first_there (by (side e).at) (after q es)))))
      ] f

  -- the same of the other ends
  pub comes : (other : Entry → NodeId) (edges : List Entry) → IsApart edges → (q : ℕ) → IsSome (find q edges) → (end : NodeId) (next : Option EdgeId) → IfSome (find q edges) (λ e. end ≡ other e) → IfSome (find q edges) (λ e. next ≡ next_in (by (side e).at) q edges)
      → map_list other (edges_from side q edges) ≡ end ∷ map_list other (still side next edges)
  comes other edges apart q there end next r n = one (find q edges) refl there r n
    where
      one : (o : Option Entry) → find q edges ≡ o → IsSome o → IfSome o (λ e. end ≡ other e) → IfSome o (λ e. next ≡ next_in (by (side e).at) q edges) → map_list other (edges_from side q edges) ≡ end ∷ map_list other (still side next edges)
      one None f there r n = cc
      one (Some e) f there r n =
          ap (λ (es : List Entry). map_list other es) (still_next edges apart q e f)
          ∙ ap (λ (o : Option EdgeId). other e ∷ map_list other (still side o edges)) (sym n)
          ∙ ap (λ (i : NodeId). i ∷ map_list other (still side next edges)) (sym r)

-- the vertex comes, where it is no key
pub if_asked_id : (slots : List Slot) (id : NodeId) (ids : List NodeId) (s : Slot) (asks : List NodeId) → map_list id_at asks ≡ asks_in (sources_of slots ids) → map_list id_at (if_asked id s asks) ≡ asks_in (source_in id.at s ∷ sources_of slots ids)
if_asked_id slots id ids Free asks h = ap (λ (ns : List ℕ). id.at ∷ ns) h
if_asked_id slots id ids (Node n) asks h = ap (λ (ns : List ℕ). id.at ∷ ns) h
if_asked_id slots id ids (Watch w) asks h = h

-- what was asked among these
pub asks_are : (slots : List Slot) (ids : List NodeId) → map_list id_at (asks_among slots ids) ≡ asks_in (sources_of slots ids)
asks_are slots [] = refl
asks_are slots (id ∷ ids) = if_asked_id slots id ids (slot_at slots id.at) (asks_among slots ids) (asks_are slots ids)

-- a step gives one of what is left, so that less is left
pub goes : {A B : Type 0} (s : List A) (y : A) (x : B) (t : List A) → s ≡ y ∷ t → MakesProgress {S = List A} {A = B} (λ _. Unit {0}) (λ l. at_most (length l)) s (Some x) t
goes s y x t h = record { on = λ _. (tt, tt, omega (arith, ap length h)); keeps = tt; rests = λ _. tt }
