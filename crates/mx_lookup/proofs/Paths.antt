-- Paths and addresses in parts.
use Rattle.std.proofs.Common.{◌≡◌, ◌∙◌, ◌<◌, ◌≤◌, ◌+◌, ◌-◌, ℕ, suc, List, [], ◌∷◌, ◌++◌, Bool, true, false, Option, Some, None, length, take, drop, get_or, refl, sym, ap, arith}
use Rattle.std.specs.Prelude.{if◌then◌else◌, slice_get}
use Rattle.std.proofs.lemmas.List.{drop_all, drop_more}
use Rattle.std.proofs.lemmas.Option.{get_or_from_slice_get, slice_get_within}
use Rattle.mx_value.specs.Name.{same_name}
use Rattle.mx_value.specs.declared.label.Label.{Label}
use Rattle.mx_meaning.specs.References.{behind, member_of, parent_of}

pub parent_taken : {X : Type 0} (xs : List X) → take (length xs - 1) xs ≡ parent_of xs
parent_taken [] = refl
parent_taken (x ∷ []) = refl
parent_taken (x ∷ y ∷ ys) =
    let e : length (x ∷ y ∷ ys) - 1 ≡ suc (length (y ∷ ys) - 1) = omega arith in
    ap (λ (n : ℕ). take n (x ∷ y ∷ ys)) e ∙ ap (λ zs. x ∷ zs) (parent_taken (y ∷ ys))

-- the last of two names or more
pub member_last : (names : List Label) → 2 ≤ length names → slice_get names (length names - 1) ≡ member_of names
member_last [] h = absurd (omega arith)
member_last (x ∷ []) h = absurd (omega arith)
member_last (x ∷ y ∷ []) h = refl
member_last (x ∷ y ∷ z ∷ names) h =
    let e : length (x ∷ y ∷ z ∷ names) - 1 ≡ suc (length (y ∷ z ∷ names) - 1) = omega arith in
    ap (λ (n : ℕ). slice_get (x ∷ y ∷ z ∷ names) n) e ∙ member_last (y ∷ z ∷ names) (omega arith)

pub no_member : (names : List Label) → length names < 2 → member_of names ≡ None
no_member [] h = refl
no_member (x ∷ []) h = refl
no_member (x ∷ y ∷ names) h = absurd (omega arith)

-- ---- the names behind others, one name on

module _ (front path : List Label) (i : ℕ) (x : Label) (within : i < length front) (is : x ≡ get_or front i x) where
  begun : drop i front ≡ x ∷ drop (i + 1) front
  begun = drop_more front i x within ∙ ap (λ (n : Label). n ∷ drop (i + 1) front) (sym is)

  pub behind_short : slice_get path i ≡ None → length path ≤ i → behind (drop i front) (drop i path) ≡ None
  behind_short none h = ap (λ (ns : List Label). behind ns (drop i path)) begun ∙ ap (λ (ns : List Label). behind (x ∷ drop (i + 1) front) ns) (drop_all i path h)

  module _ (y : Label) (has : slice_get path i ≡ Some y) where
    both : behind (drop i front) (drop i path) ≡ behind (x ∷ drop (i + 1) front) (y ∷ drop (i + 1) path)
    both =
        ap (λ (ns : List Label). behind ns (drop i path)) begun
        ∙ ap (λ (ns : List Label). behind (x ∷ drop (i + 1) front) ns) (drop_more path i y (slice_get_within path i y has) ∙ ap (λ (n : Label). n ∷ drop (i + 1) path) (get_or_from_slice_get path i y y has))

    pub behind_more : same_name x y ≡ true → behind (drop i front) (drop i path) ≡ behind (drop (i + 1) front) (drop (i + 1) path)
    behind_more e = both ∙ ap (λ (t : Bool). if t then behind (drop (i + 1) front) (drop (i + 1) path) else None) e

    pub behind_other : same_name x y ≡ false → behind (drop i front) (drop i path) ≡ None
    behind_other e = both ∙ ap (λ (t : Bool). if t then behind (drop (i + 1) front) (drop (i + 1) path) else None) e

-- behind all of them
pub behind_all : (front path : List Label) (i : ℕ) → length front ≤ i → behind (drop i front) (drop i path) ≡ Some (drop i path)
behind_all front path i h = ap (λ (ns : List Label). behind ns (drop i path)) (drop_all i front h)

-- ---- the names of an address

-- these names, and those of a path
abbrev pub prefixed : List Label → Option (List Label) → Option (List Label)
prefixed names (Some path) = Some (names ++ path)
prefixed names None = None

pub prefixed_nothing : (path : Option (List Label)) → prefixed [] path ≡ path
prefixed_nothing (Some path) = refl
prefixed_nothing None = refl
