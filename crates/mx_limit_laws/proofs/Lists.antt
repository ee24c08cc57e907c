-- What holds of each item of a list.
use Rattle.std.proofs.Common.{Bool, true, false, if◌then◌else◌, ℕ, zero, suc, List, [], ◌∷◌, ◌++◌, map, drop, Option, None, Some, inl, inr, refl, subst}
use Rattle.std.specs.List.{slice_get}
use Rattle.mx_runs.specs.Lists.{Has}
use Rattle.mx_limit_laws.specs.Values.{Each}

pub each_has : {X : Type 0} (P : X → Type 0) (xs : List X) → Each P xs → (x : X) → Has xs x → P x
each_has P [] h x i = absurd i
each_has P (y ∷ xs) h x i = elim i [ inl e ↦ subst P e h.0 | inr j ↦ each_has P xs h.1 x j ]

pub has_each : {X : Type 0} (P : X → Type 0) (xs : List X) → ((x : X) → Has xs x → P x) → Each P xs
has_each P [] h = tt
has_each P (x ∷ xs) h = (h x (inl refl), has_each P xs (λ y i. h y (inr i)))

pub each_append : {X : Type 0} (P : X → Type 0) (xs ys : List X) → Each P xs → Each P ys → Each P (xs ++ ys)
each_append P [] ys h k = k
each_append P (x ∷ xs) ys h k = (h.0, each_append P xs ys h.1 k)

pub each_left : {X : Type 0} (P : X → Type 0) (xs ys : List X) → Each P (xs ++ ys) → Each P xs
each_left P [] ys h = tt
each_left P (x ∷ xs) ys h = (h.0, each_left P xs ys h.1)

pub each_right : {X : Type 0} (P : X → Type 0) (xs ys : List X) → Each P (xs ++ ys) → Each P ys
each_right P [] ys h = h
each_right P (x ∷ xs) ys h = each_right P xs ys h.1

pub each_map : {X Y : Type 0} (P : X → Type 0) (Q : Y → Type 0) (f : X → Y) → ((x : X) → P x → Q (f x)) → (xs : List X) → Each P xs → Each Q (map f xs)
each_map P Q f k [] h = tt
each_map P Q f k (x ∷ xs) h = (k x h.0, each_map P Q f k xs h.1)

pub each_drop : {X : Type 0} (P : X → Type 0) (n : ℕ) (xs : List X) → Each P xs → Each P (drop n xs)
each_drop P zero xs h = h
each_drop P (suc n) [] h = tt
each_drop P (suc n) (x ∷ xs) h = each_drop P n xs h.1

-- it holds of what is there
abbrev pub IfAny : {X : Type 0} → (X → Type 0) → Option X → Type 0
IfAny P None = Unit {0}
IfAny P (Some x) = P x

pub each_at : {X : Type 0} (P : X → Type 0) (xs : List X) → Each P xs → (i : ℕ) → IfAny P (slice_get xs i)
each_at P [] h i = tt
each_at P (x ∷ xs) h zero = h.0
each_at P (x ∷ xs) h (suc i) = each_at P xs h.1 i

pub if_any : {X : Type 0} (P : X → Type 0) (b : Bool) (x y : Option X) → IfAny P x → IfAny P y → IfAny P (if b then x else y)
if_any P true x y h k = h
if_any P false x y h k = k

pub if_each : {X : Type 0} (P : X → Type 0) (b : Bool) (xs ys : List X) → Each P xs → Each P ys → Each P (if b then xs else ys)
if_each P true xs ys h k = h
if_each P false xs ys h k = k
