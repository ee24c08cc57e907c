-- What stands in a list that is filtered or mapped, and where.
use Rattle.std.proofs.Common.{◌≡◌, ℕ, zero, suc, ◌+◌, ◌<◌, Bool, true, false, not, cond, List, [], ◌∷◌, ◌++◌, map, length, Option, Some, None, slice_get, ◌⊎◌, inl, inr, refl, ◌∙◌, ap, subst, arith}
use Rattle.std.specs.Prelude.{position}
use Rattle.std.specs.List.{filter_map, position_or_len, cons_option}
use Rattle.std.proofs.lemmas.Bool.{lt-ltb}
use Rattle.mx_c3.specs.Lists.{Has, Among, Distinct, AllDistinct}
use Rattle.mx_c3.proofs.ListLemmas.{has_left}

pub place_has : {X : Type 0} (xs : List X) (i : ℕ) (x : X) → slice_get xs i ≡ Some x → Has xs x
place_has [] i x e = absurd (let f : None ≡ Some x = e in cc)
place_has (y ∷ ys) zero x e = inl (let f : y ≡ x = cc in f)
place_has (y ∷ ys) (suc i) x e = inr (place_has ys i x e)

-- an item of a distinct list stands at one place
pub one_place : {X : Type 0} (xs : List X) (i j : ℕ) (x : X) → Distinct xs → slice_get xs i ≡ Some x → slice_get xs j ≡ Some x → i ≡ j
one_place [] i j x d e f = absurd (let g : None ≡ Some x = e in cc)
one_place (y ∷ ys) zero zero x d e f = refl
one_place {X} (y ∷ ys) zero (suc j) x d e f = let s : x ≡ y = cc in absurd (d.0 (let P : X → Type 0 = λ z. Has ys z in subst P s (place_has ys j x f)))
one_place {X} (y ∷ ys) (suc i) zero x d e f = let s : x ≡ y = cc in absurd (d.0 (let P : X → Type 0 = λ z. Has ys z in subst P s (place_has ys i x e)))
one_place (y ∷ ys) (suc i) (suc j) x d e f = ap suc (one_place ys i j x d.1 e f)

pub has_map : {X Y : Type 0} (g : X → Y) (xs : List X) (x : X) → Has xs x → Has (map g xs) (g x)
has_map g [] x h = absurd h
has_map g (z ∷ xs) x h = elim h [ inl e ↦ inl (ap g e) | inr r ↦ inr (has_map g xs x r) ]

pub record Mapped {X Y : Type 0} (g : X → Y) (xs : List X) (y : Y) : Type 0 where
  pub from : X
  pub among : Has xs from
  pub is : g from ≡ y

pub map_has : {X Y : Type 0} (g : X → Y) (xs : List X) (y : Y) → Has (map g xs) y → Mapped g xs y
map_has g [] y h = absurd h
map_has g (x ∷ xs) y h =
    elim h [
      | inl e ↦ record { from = x; among = inl refl; is = e }
      | inr r ↦ let m = map_has g xs y r in record { from = m.from; among = inr m.among; is = m.is }
    ]

cons_has : {Y : Type 0} (o : Option Y) (ys : List Y) (y : Y) → o ≡ Some y → Has (cons_option o ys) y
cons_has None ys y e = absurd (let g : None ≡ Some y = e in cc)
cons_has (Some v) ys y e = inl (let g : v ≡ y = cc in g)

behind : {Y : Type 0} (o : Option Y) (ys : List Y) (y : Y) → Has ys y → Has (cons_option o ys) y
behind None ys y h = h
behind (Some v) ys y h = inr h

pub filter_has : {X Y : Type 0} (f : X → Option Y) (xs : List X) (x : X) (y : Y) → Has xs x → f x ≡ Some y → Has (filter_map f xs) y
filter_has f [] x y h e = absurd h
filter_has f (z ∷ xs) x y h e =
    elim h [
      | inl i ↦ cons_has (f z) (filter_map f xs) y (ap f i ∙ e)
      | inr r ↦ behind (f z) (filter_map f xs) y (filter_has f xs x y r e)
    ]

pub record Filtered {X Y : Type 0} (f : X → Option Y) (xs : List X) (y : Y) : Type 0 where
  pub from : X
  pub among : Has xs from
  pub is : f from ≡ Some y

has_cons : {Y : Type 0} (o : Option Y) (ys : List Y) (y : Y) → Has (cons_option o ys) y → (o ≡ Some y) ⊎ Has ys y
has_cons None ys y h = inr h
has_cons (Some v) ys y h = elim h [ inl e ↦ inl (ap Some e) | inr r ↦ inr r ]

pub has_filter : {X Y : Type 0} (f : X → Option Y) (xs : List X) (y : Y) → Has (filter_map f xs) y → Filtered f xs y
has_filter f [] y h = absurd h
has_filter f (x ∷ xs) y h =
    elim (has_cons (f x) (filter_map f xs) y h) [
      | inl e ↦ record { from = x; among = inl refl; is = e }
      | inr r ↦ let m = has_filter f xs y r in record { from = m.from; among = inr m.among; is = m.is }
    ]

-- ---- distinct lists

pub distinct_left : {X : Type 0} (xs ys : List X) → Distinct (xs ++ ys) → Distinct xs
distinct_left [] ys d = tt
distinct_left (x ∷ xs) ys d = (λ h. d.0 (has_left xs ys x h), distinct_left xs ys d.1)

distinct_cons : {Y : Type 0} (o : Option Y) (ys : List Y) → ((y : Y) → o ≡ Some y → Has ys y → ⊥) → Distinct ys → Distinct (cons_option o ys)
distinct_cons None ys n d = d
distinct_cons (Some v) ys n d = (n v refl, d)

-- different items give different results
pub distinct_filter : {X Y : Type 0} (f : X → Option Y) (xs : List X) → ((x z : X) (y : Y) → f x ≡ Some y → f z ≡ Some y → x ≡ z) → Distinct xs → Distinct (filter_map f xs)
distinct_filter f [] one d = tt
distinct_filter {X} f (x ∷ xs) one d =
    distinct_cons (f x) (filter_map f xs) (λ y e h.
    let m = has_filter f xs y h in
    d.0 (let P : X → Type 0 = λ z. Has xs z in subst P (one m.from x y m.is e) m.among)) (distinct_filter f xs one d.1)

cons_rest : {Y : Type 0} (o : Option Y) (ys : List Y) → Distinct (cons_option o ys) → Distinct ys
cons_rest None ys d = d
cons_rest (Some v) ys d = d.1

cons_once : {Y : Type 0} (o : Option Y) (ys : List Y) (y : Y) → o ≡ Some y → Distinct (cons_option o ys) → Has ys y → ⊥
cons_once None ys y e d h = let f : None ≡ Some y = e in cc
cons_once {Y} (Some v) ys y e d h = let f : y ≡ v = cc in d.0 (let P : Y → Type 0 = λ z. Has ys z in subst P f h)

-- some distinct list of results has one for the item, which all items of its image give too
pub record IsTold {X Y : Type 0} (Z : Type 0) (g : X → Y) (xs : List X) (x : X) : Type 0 where
  pub result : X → Option Z
  pub told : Z
  pub is : result x ≡ Some told
  pub same : (z : X) → g z ≡ g x → result z ≡ result x
  pub distinct : Distinct (filter_map result xs)

-- so the images are distinct
pub distinct_map : {X Y : Type 0} (Z : Type 0) (g : X → Y) (xs : List X) → ((x : X) → Has xs x → IsTold Z g xs x) → Distinct (map g xs)
distinct_map Z g [] tells = tt
distinct_map Z g (x ∷ xs) tells =
    let t = tells x (inl refl) in (
      λ h.
          let m = map_has g xs (g x) h in
          cons_once (t.result x) (filter_map t.result xs) t.told t.is t.distinct (filter_has t.result xs m.from t.told m.among (t.same m.from m.is ∙ t.is)),
      distinct_map Z g xs (λ z h.
          let u = tells z (inr h) in
          record { result = u.result; told = u.told; is = u.is; same = u.same; distinct = cons_rest (u.result x) (filter_map u.result xs) u.distinct }),
    )

pub all_distinct_map : {X Y : Type 0} (g : X → List Y) (xs : List X) → ((x : X) → Has xs x → Distinct (g x)) → AllDistinct (map g xs)
all_distinct_map g [] d = tt
all_distinct_map g (x ∷ xs) d = (d x (inl refl), all_distinct_map g xs (λ z h. d z (inr h)))

pub record Gathered {X Y : Type 0} (g : X → List Y) (xs : List X) (y : Y) : Type 0 where
  pub from : X
  pub among : Has xs from
  pub has : Has (g from) y

pub among_map : {X Y : Type 0} (g : X → List Y) (xs : List X) (y : Y) → Among (map g xs) y → Gathered g xs y
among_map g [] y h = absurd h
among_map g (x ∷ xs) y h =
    elim h [
      | inl i ↦ record { from = x; among = inl refl; has = i }
      | inr r ↦ let m = among_map g xs y r in record { from = m.from; among = inr m.among; has = m.has }
    ]

-- ---- places

within_by : {X : Type 0} (p : X → Bool) (y : X) (ys : List X) (b : Bool) → p y ≡ b → (p y ≡ false → position_or_len p ys < length ys) → cond (not b) (1 + position_or_len p ys) 0 < length (y ∷ ys)
within_by p y ys true e below = omega arith
within_by p y ys false e below = let l : position_or_len p ys < length ys = below e in omega arith

passes_within : {X : Type 0} (p : X → Bool) (xs : List X) (x : X) → Has xs x → p x ≡ true → position_or_len p xs < length xs
passes_within p [] x h t = absurd h
passes_within p (y ∷ ys) x h t =
    within_by p y ys (p y) refl (λ e.
    elim h [
      | inl i ↦ absurd (let f : p y ≡ p x = ap p i in let g : false ≡ true = cc in cc)
      | inr r ↦ passes_within p ys x r t
    ])

abbrev when : ℕ → Bool → Option ℕ
when n b = cond b (Some n) None

-- an item that passes has a place
pub passes_place : {X : Type 0} (p : X → Bool) (xs : List X) (x : X) → Has xs x → p x ≡ true → position p xs ≡ Some (position_or_len p xs)
passes_place p xs x h t = ap (when (position_or_len p xs)) (lt-ltb (position_or_len p xs) (length xs) (passes_within p xs x h t))
