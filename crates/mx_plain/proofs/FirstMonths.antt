-- Laws of the first n of a sequence.
use Rattle.std.proofs.Common.{◌≡◌, ℕ, zero, suc, ◌+◌, ◌<◌, ◌≤◌, ◌⊎◌, inl, inr, List, [], ◌∷◌, ◌++◌, length, get_or, map, refl, ap, ◌∙◌, arith, add-one}
use Rattle.std.proofs.Math.ListN.{length-append}
use Rattle.std.proofs.lemmas.List.{get_or_append_left, get_or_at, map-append}
use Rattle.std.proofs.lemmas.Bool.{cases_lt}
use Rattle.mx_plain.specs.Months.{first}

pub first-none : {A : Type 0} (sequence : ℕ → A) → first 0 sequence ≡ []
unfolding first
first-none sequence = refl

pub first-more : {A : Type 0} (n : ℕ) (sequence : ℕ → A) → first (n + 1) sequence ≡ first n sequence ++ sequence n ∷ []
unfolding first
first-more n sequence = rw add-one refl

pub first-length : {A : Type 0} (n : ℕ) (sequence : ℕ → A) → length (first n sequence) ≡ n
unfolding first
first-length zero sequence = refl
first-length (suc n) sequence = length-append (first n sequence) (sequence n ∷ []) ∙ ap (λ (k : ℕ). k + 1) (first-length n sequence) ∙ add-one n

pub first-at : {A : Type 0} (n : ℕ) (sequence : ℕ → A) (i : ℕ) (d : A) → i < n → get_or (first n sequence) i d ≡ sequence i
unfolding first
first-at zero sequence i d h = absurd (omega arith)
first-at (suc n) sequence i d h = at (cases_lt i n) (first-at n sequence i d)
  where
    at : (i < n) ⊎ (n ≤ i) → (i < n → get_or (first n sequence) i d ≡ sequence i) → get_or (first n sequence ++ sequence n ∷ []) i d ≡ sequence i
    at (inl less) there = get_or_append_left (first n sequence) (sequence n ∷ []) d i (rw first-length less) ∙ there less
    at (inr more) there =
        let e : n ≡ i = omega arith in
        get_or_at (first n sequence) (sequence n) [] d i (first-length n sequence ∙ e) ∙ ap sequence e

pub map-first : {A B : Type 0} (f : A → B) (n : ℕ) (sequence : ℕ → A) → map f (first n sequence) ≡ first n (λ i. f (sequence i))
unfolding first
map-first f zero sequence = refl
map-first {B = B} f (suc n) sequence = map-append f (first n sequence) (sequence n ∷ []) ∙ ap (λ (xs : List B). xs ++ f (sequence n) ∷ []) (map-first f n sequence)

-- what is read of the first n is what the sequence has there
pub read-first : {A : Type 0} (n : ℕ) (sequence : ℕ → A) (xs : List A) (i : ℕ) (x : A) → xs ≡ first n sequence → x ≡ get_or xs i x → i < n → x ≡ sequence i
read-first n sequence xs i x e r h = r ∙ ap (λ ys. get_or ys i x) e ∙ first-at n sequence i x h
