-- Edges among a list.
use Rattle.std.proofs.Common.{◌≡◌, ◌∙◌, ℕ, Bool, true, false, cond, eqb, List, [], ◌∷◌, Option, Some, None, refl, sym, ap, ◌⊎◌, inl, inr}
use Rattle.std.specs.Prelude.{filter}
use Rattle.std.proofs.lemmas.Bool.{eqb-true, eq-eqb}
use Rattle.std.specs.FinMap as map
use Rattle.mx_graph.specs.Relation.{Entry, find, IsApart, is_set, is_marked_in, is_kept}
use Rattle.mx_vertices.specs.Places.{Has}
use Rattle.mx_vertices.proofs.Places.{Nodes}

pub find_has : (k : ℕ) (xs : List Entry) (e : Entry) → find k xs ≡ Some e → Has xs e
find_has k [] e f = cc
find_has k (x ∷ xs) e f =
    elim (eqb x.id.at k) as (λ b. cond b (Some x) (find k xs) ≡ Some e → (x ≡ e) ⊎ Has xs e) [
      | true ↦ λ f. let s : x ≡ e = cc in inl s
      | false ↦ λ f. inr (find_has k xs e f)
    ] f

pub has_find : (xs : List Entry) → IsApart xs → (e : Entry) → Has xs e → find e.id.at xs ≡ Some e
has_find [] a e h = absurd h
has_find (x ∷ xs) a e h =
    elim h [
      | inl s ↦ ap (λ b. cond b (Some x) (find e.id.at xs)) (eq-eqb x.id.at e.id.at (ap (λ (y : Entry). y.id.at) s)) ∙ ap Some s
      | inr i ↦
          let f : find e.id.at xs ≡ Some e = has_find xs a.1 e i in
          elim (eqb x.id.at e.id.at) as (λ b. eqb x.id.at e.id.at ≡ b → cond b (Some x) (find e.id.at xs) ≡ Some e) [
            | true ↦ λ t. let none : find e.id.at xs ≡ None = ap (λ k. find k xs) (sym (eqb-true x.id.at e.id.at t)) ∙ a.0 in cc
            | false ↦ λ t. f
          ] refl
    ]

pub filter_has : (p : Entry → Bool) (xs : List Entry) (e : Entry) → Has (filter p xs) e → Has xs e × (p e ≡ true)
filter_has p [] e h = absurd h
filter_has p (x ∷ xs) e h =
    elim (p x) as (λ b. p x ≡ b → Has (cond b (x ∷ filter p xs) (filter p xs)) e → Has (x ∷ xs) e × (p e ≡ true)) [
      | true ↦ λ t h. elim h [ inl s ↦ (inl s, ap p (sym s) ∙ t) | inr i ↦ let r = filter_has p xs e i in (inr r.0, r.1) ]
      | false ↦ λ t h. let r = filter_has p xs e h in (inr r.0, r.1)
    ] refl h

pub marked_test : (nodes : Nodes) (q : ℕ) → map.get nodes q ≡ Some true → is_marked_in nodes q ≡ true
marked_test nodes q e = ap is_set e

pub test_marked : (nodes : Nodes) (q : ℕ) → is_marked_in nodes q ≡ true → map.get nodes q ≡ Some true
test_marked nodes q t = by (map.get nodes q) t
  where
    by : (o : Option Bool) → is_set o ≡ true → o ≡ Some true
    by None t = cc
    by (Some true) t = refl
    by (Some false) t = cc

pub both_unmarked : (nodes : Nodes) (e : Entry) → is_marked_in nodes e.reader.at ≡ false → is_marked_in nodes e.read.at ≡ false → is_kept nodes e ≡ true
both_unmarked nodes e a b = rw (a, b) refl

pub kept_unmarked : (nodes : Nodes) (e : Entry) → is_kept nodes e ≡ true → is_marked_in nodes e.reader.at ≡ false
kept_unmarked nodes e k =
    elim (is_marked_in nodes e.reader.at) as (λ b. is_marked_in nodes e.reader.at ≡ b → b ≡ false) [
      | true ↦ λ t. let no : is_kept nodes e ≡ false = rw t refl in cc
      | false ↦ λ t. refl
    ] refl
