-- The locals of a formula, by name, and those of a run, by place.
use Rattle.std.proofs.Common.{◌≡◌, ◌<◌, ◌≤◌, ℕ, ◌+◌, List, [], ◌∷◌, length, map, get_or, Option, Some, None, Bool, true, false, refl, sym, ap, ◌∙◌, subst, arith}
use Rattle.std.specs.Prelude.{slice_get, slice_set, if◌then◌else◌}
use Rattle.std.proofs.lemmas.Option.{slice_get-get_or}
use Rattle.std.proofs.lemmas.List.{get_or-set_same, get_or-set_other, length-set}
use Rattle.mx_value.specs.declared.label.Label.{Label}
use Rattle.mx_value.specs.declared.value.Value.{Value}
use Rattle.mx_value.specs.Name.{same_name}
use Rattle.mx_meaning.specs.Environments.{Locals, local_of, set_in}
use Rattle.mx_code.specs.declared.action.Local.{Local}
use Rattle.mx_code.specs.Names.{place_of, with_name}
use Rattle.mx_code_law.specs.Fits.{IsFree, HasPlaces, IsScope, standing, Stands}

-- what a run has at a name's place is the local of that name
abbrev pub IsPlaced : List (Option Value) → Option ℕ → Option (Option Value) → Type 0
IsPlaced ls None None = Unit {0}
IsPlaced ls None (Some l) = ⊥
IsPlaced ls (Some i) None = ⊥
IsPlaced ls (Some i) (Some l) = slice_get ls i ≡ Some l

is_placed : (count : ℕ) (scope : List Local) (ls : List (Option Value)) (name : Label) → HasPlaces count scope → count ≤ length ls → IsPlaced ls (place_of scope name) (local_of (map (standing ls) scope) name)
is_placed count [] ls name sc e = tt
is_placed count (l ∷ scope) ls name sc e = placed (same_name l.name name) (is_placed count scope ls name sc.2 e)
  where
    placed : (b : Bool) → IsPlaced ls (place_of scope name) (local_of (map (standing ls) scope) name) → IsPlaced ls (if b then Some l.place else place_of scope name) (if b then Some (get_or ls l.place None) else local_of (map (standing ls) scope) name)
    placed true h = slice_get-get_or ls l.place None (omega (arith, sc.0, e))
    placed false h = h

pub stands_placed : (size : ℕ) (scope : List Local) (locals : Locals) (ls : List (Option Value)) (name : Label) → IsScope scope → Stands size scope locals ls → IsPlaced ls (place_of scope name) (local_of locals name)
stands_placed size scope locals ls name sc st =
    let room : length scope ≤ length ls = omega (arith, st.long, st.fit) in
    subst (λ l. IsPlaced ls (place_of scope name) (local_of l name)) (sym st.is) (is_placed (length scope) scope ls name sc room)

-- a store at a place that no local has is not seen
unseen : (scope : List Local) (ls : List (Option Value)) (place : ℕ) (v : Option Value) → IsFree place scope → map (standing (slice_set ls place v)) scope ≡ map (standing ls) scope
unseen [] ls place v f = refl
unseen (l ∷ scope) ls place v f =
    ap (λ m. (l.name, m) ∷ map (standing (slice_set ls place v)) scope) (get_or-set_other ls place l.place v None f.0)
    ∙ ap (λ ms. (l.name, get_or ls l.place None) ∷ ms) (unseen scope ls place v f.1)

abbrev or_else : Option ℕ → ℕ → ℕ
or_else None d = d
or_else (Some x) d = x

-- the place of a name is no other local's
taken : (scope : List Local) (name : Label) (place front : ℕ) → place_of scope name ≡ Some place → IsFree front scope → front ≡ place → ⊥
taken [] name place front e f same = cc
taken (l ∷ scope) name place front e f same = here (same_name l.name name) (λ h. taken scope name place front h f.1 same) e
  where
    here : (b : Bool) → (place_of scope name ≡ Some place → ⊥) → (if b then Some l.place else place_of scope name) ≡ Some place → ⊥
    here true more h = f.0 (ap (λ o. or_else o place) h ∙ sym same)
    here false more h = more h

set_standing : (count : ℕ) (scope : List Local) (ls : List (Option Value)) (name : Label) (place : ℕ) (v : Value) → HasPlaces count scope → count ≤ length ls → place_of scope name ≡ Some place → set_in (map (standing ls) scope) name v ≡ map (standing (slice_set ls place (Some v))) scope
set_standing count [] ls name place v sc long e = absurd cc
set_standing count (l ∷ scope) ls name place v sc long e = set (same_name l.name name) (λ h. set_standing count scope ls name place v sc.2 long h) e
  where
    set : (b : Bool) → (place_of scope name ≡ Some place → set_in (map (standing ls) scope) name v ≡ map (standing (slice_set ls place (Some v))) scope) → (if b then Some l.place else place_of scope name) ≡ Some place → (if b then (l.name, Some v) ∷ map (standing ls) scope else (l.name, get_or ls l.place None) ∷ set_in (map (standing ls) scope) name v) ≡ map (standing (slice_set ls place (Some v))) (l ∷ scope)
    set true more h =
        let is : l.place ≡ place = ap (λ o. or_else o place) h in
        let here : get_or (slice_set ls place (Some v)) l.place None ≡ Some v = ap (λ n. get_or (slice_set ls n (Some v)) l.place None) (sym is) ∙ get_or-set_same ls l.place (Some v) None (omega (arith, sc.0, long)) in
        ap (λ m. (l.name, m) ∷ map (standing ls) scope) (sym here)
        ∙ ap (λ ms. (l.name, get_or (slice_set ls place (Some v)) l.place None) ∷ ms) (sym (unseen scope ls place (Some v) (subst (λ n. IsFree n scope) is sc.1)))
    set false more h =
        let other : l.place ≡ place → ⊥ = taken scope name place l.place h sc.1 in
        ap (λ ms. (l.name, get_or ls l.place None) ∷ ms) (more h)
        ∙ ap (λ m. (l.name, m) ∷ map (standing (slice_set ls place (Some v))) scope) (sym (get_or-set_other ls place l.place (Some v) None other))

-- a local is set
pub stands_set : (size : ℕ) (scope : List Local) (locals : Locals) (ls : List (Option Value)) (name : Label) (place : ℕ) (v : Value) → IsScope scope → Stands size scope locals ls → place_of scope name ≡ Some place → Stands size scope (set_in locals name v) (slice_set ls place (Some v))
stands_set size scope locals ls name place v sc st e =
    let room : length scope ≤ length ls = omega (arith, st.long, st.fit) in
    record { is = ap (λ l. set_in l name v) st.is ∙ set_standing (length scope) scope ls name place v sc room e; long = length-set ls place (Some v) ∙ st.long; fit = st.fit }

-- ---- a scope of its own

free_past : (count place : ℕ) (scope : List Local) → HasPlaces count scope → count ≤ place → IsFree place scope
free_past count place [] sc e = tt
free_past count place (l ∷ scope) sc e = ((λ (is : l.place ≡ place). omega (arith, sc.0, e, is)), free_past count place scope sc.2 e)

more_places : (count most : ℕ) (scope : List Local) → HasPlaces count scope → count ≤ most → HasPlaces most scope
more_places count most [] sc e = tt
more_places count most (l ∷ scope) sc e = (omega (arith, sc.0, e), sc.1, more_places count most scope sc.2 e)

pub scope_in : (name : Label) (scope : List Local) → IsScope scope → IsScope (with_name name scope)
scope_in name scope sc =
    (omega arith, free_past (length scope) (length scope) scope sc (omega arith), more_places (length scope) (length (with_name name scope)) scope sc (omega arith))

-- one more local in front
pub stands_in : (size : ℕ) (scope : List Local) (locals : Locals) (ls : List (Option Value)) (name : Label) (v : Value) → IsScope scope → length scope + 1 ≤ size → Stands size scope locals ls → Stands size (with_name name scope) ((name, Some v) ∷ locals) (slice_set ls (length scope) (Some v))
stands_in size scope locals ls name v sc room st =
    let inside : length scope < length ls = omega (arith, room, st.long) in
    record {
      is = ap (λ m. (name, m) ∷ locals) (sym (get_or-set_same ls (length scope) (Some v) None inside))
          ∙ ap (λ ms. (name, get_or (slice_set ls (length scope) (Some v)) (length scope) None) ∷ ms) (st.is ∙ sym (unseen scope ls (length scope) (Some v) (free_past (length scope) (length scope) scope sc (omega arith))));
      long = length-set ls (length scope) (Some v) ∙ st.long;
      fit = omega (arith, room);
    }

abbrev tail : Locals → Locals
tail [] = []
tail (l ∷ ls) = ls

-- and without it
pub stands_out : (size : ℕ) (scope : List Local) (locals : Locals) (ls : List (Option Value)) (name : Label) (v : Value) → Stands size (with_name name scope) ((name, Some v) ∷ locals) ls → Stands size scope locals ls
stands_out size scope locals ls name v st = record { is = ap tail st.is; long = st.long; fit = omega (arith, st.fit) }
