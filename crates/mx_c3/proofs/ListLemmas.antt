-- Laws of what is among a list.
use Rattle.std.proofs.Common.{◌≡◌, ℕ, zero, suc, ◌+◌, ◌<◌, Bool, true, false, not, List, [], ◌∷◌, ◌++◌, length, take, drop, get_or, slice_set, ◌⊎◌, inl, inr, refl, ap, subst, arith, add-one, drop-cons, Some, None}
use Rattle.std.proofs.lemmas.Bool.{eqb-true, eq-eqb}
use Rattle.std.proofs.lemmas.List.{take_more}
use Rattle.mx_c3.specs.declared.space.SpaceId.{SpaceId}
use Rattle.mx_c3.specs.Lists.{Has, Among, Distinct, AllDistinct}
use Rattle.mx_c3.specs.Merge.{same, tail, head}

pub same_is : (x y : SpaceId) → same x y ≡ true → x ≡ y
same_is x y h =
    let place : ℕ → SpaceId = λ n. record { 0 = n } in
    let e : x.0 ≡ y.0 = eqb-true x.0 y.0 h in
    ap place e

pub is_same : (x y : SpaceId) → x ≡ y → same x y ≡ true
is_same x y h = eq-eqb x.0 y.0 (ap (λ (z : SpaceId). z.0) h)

pub data Compared (x y : SpaceId) : Type 0 where
  Same : same x y ≡ true → x ≡ y → Compared x y
  Other : same x y ≡ false → (x ≡ y → ⊥) → Compared x y

compared_by : (x y : SpaceId) (b : Bool) → same x y ≡ b → Compared x y
compared_by x y true h = Same h (same_is x y h)
compared_by x y false h = Other h (λ e. let t = is_same x y e in cc)

pub compared : (x y : SpaceId) → Compared x y
compared x y = compared_by x y (same x y) refl

pub has_left : {X : Type 0} (xs ys : List X) (x : X) → Has xs x → Has (xs ++ ys) x
has_left [] ys x h = absurd h
has_left (z ∷ xs) ys x h = elim h [ inl e ↦ inl e | inr r ↦ inr (has_left xs ys x r) ]

pub has_right : {X : Type 0} (xs ys : List X) (x : X) → Has ys x → Has (xs ++ ys) x
has_right [] ys x h = h
has_right (z ∷ xs) ys x h = inr (has_right xs ys x h)

pub has_cases : {X : Type 0} (xs ys : List X) (x : X) → Has (xs ++ ys) x → Has xs x ⊎ Has ys x
has_cases [] ys x h = inr h
has_cases (z ∷ xs) ys x h =
    elim h [ inl e ↦ inl (inl e) | inr r ↦ elim (has_cases xs ys x r) [ inl a ↦ inl (inr a) | inr b ↦ inr b ] ]

pub has_push_cases : {X : Type 0} (xs : List X) (y x : X) → Has (xs ++ y ∷ []) x → Has xs x ⊎ (y ≡ x)
has_push_cases xs y x h =
    elim (has_cases xs (y ∷ []) x h) [ inl a ↦ inl a | inr b ↦ elim b [ inl e ↦ inr e | inr n ↦ absurd n ] ]

pub has_at : {X : Type 0} (xs : List X) (i : ℕ) (d : X) → i < length xs → Has xs (get_or xs i d)
has_at [] i d h = absurd (omega arith)
has_at (x ∷ xs) zero d h = inl refl
has_at (x ∷ xs) (suc i) d h = inr (has_at xs i d (omega arith))

pub has_more : {X : Type 0} (xs : List X) (i : ℕ) (d x : X) → i < length xs → Has (take (i + 1) xs) x → Has (take i xs) x ⊎ (get_or xs i d ≡ x)
has_more xs i d x h m = has_push_cases (take i xs) (get_or xs i d) x (subst (λ zs. Has zs x) (take_more xs i d h) m)

pub has_tail : (xs : List SpaceId) (x : SpaceId) → Has (tail xs) x → Has xs x
has_tail [] x h = h
has_tail (y ∷ ys) x h = inr h

pub distinct_tail : (xs : List SpaceId) → Distinct xs → Distinct (tail xs)
distinct_tail [] d = tt
distinct_tail (y ∷ ys) d = d.1

pub among_cases : {X : Type 0} (xss yss : List (List X)) (x : X) → Among (xss ++ yss) x → Among xss x ⊎ Among yss x
among_cases [] yss x h = inr h
among_cases (xs ∷ xss) yss x h =
    elim h [ inl e ↦ inl (inl e) | inr r ↦ elim (among_cases xss yss x r) [ inl a ↦ inl (inr a) | inr b ↦ inr b ] ]

pub among_more : {X : Type 0} (lists : List (List X)) (i : ℕ) (d : List X) (x : X) → i < length lists → Among (take (i + 1) lists) x → Among (take i lists) x ⊎ Has (get_or lists i d) x
among_more lists i d x h m =
    elim (among_cases (take i lists) (get_or lists i d ∷ []) x (subst (λ zs. Among zs x) (take_more lists i d h) m)) [
      | inl a ↦ inl a
      | inr b ↦ elim b [ inl e ↦ inr e | inr n ↦ absurd n ]
    ]

pub among_at : {X : Type 0} (lists : List (List X)) (i : ℕ) (d : List X) (x : X) → i < length lists → Has (get_or lists i d) x → Among lists x
among_at [] i d x h m = absurd (omega arith)
among_at (xs ∷ lists) zero d x h m = inl m
among_at (xs ∷ lists) (suc i) d x h m = inr (among_at lists i d x (omega arith) m)

pub among_set : {X : Type 0} (lists : List (List X)) (i : ℕ) (d ys : List X) (x : X) → (Has ys x → Has (get_or lists i d) x) → Among (slice_set lists i ys) x → Among lists x
among_set [] i d ys x f m = m
among_set (xs ∷ lists) zero d ys x f m = elim m [ inl a ↦ inl (f a) | inr b ↦ inr b ]
among_set (xs ∷ lists) (suc i) d ys x f m = elim m [ inl a ↦ inl a | inr b ↦ inr (among_set lists i d ys x f b) ]

pub all_distinct_at : {X : Type 0} (lists : List (List X)) (i : ℕ) (d : List X) → AllDistinct lists → i < length lists → Distinct (get_or lists i d)
all_distinct_at [] i d a h = absurd (omega arith)
all_distinct_at (xs ∷ lists) zero d a h = a.0
all_distinct_at (xs ∷ lists) (suc i) d a h = all_distinct_at lists i d a.1 (omega arith)

pub all_distinct_take : {X : Type 0} (lists : List (List X)) (i : ℕ) → AllDistinct lists → AllDistinct (take i lists)
all_distinct_take [] zero a = tt
all_distinct_take [] (suc i) a = tt
all_distinct_take (xs ∷ lists) zero a = tt
all_distinct_take (xs ∷ lists) (suc i) a = (a.0, all_distinct_take lists i a.1)

pub head_has : (xs : List SpaceId) (x : SpaceId) → head xs ≡ Some x → Has xs x
head_has [] x e = absurd (let i : None ≡ Some x = e in cc)
head_has (y ∷ ys) x e = inl (let i : y ≡ x = cc in i)

pub drop_more : {X : Type 0} (xs : List X) (i : ℕ) (d : X) → i < length xs → drop i xs ≡ get_or xs i d ∷ drop (i + 1) xs
drop_more xs i d h = rw (add-one) (drop-cons xs i d h)

pub not_false : (b : Bool) → false ≡ not b → b ≡ true
not_false true e = refl
not_false false e = absurd (let i : false ≡ true = e in cc)

pub none_long : {X : Type 0} (xs : List X) → length xs ≡ 0 → xs ≡ []
none_long [] e = refl
none_long (x ∷ xs) e = absurd (omega arith)
