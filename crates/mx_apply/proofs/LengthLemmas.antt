-- The lengths of texts, counted part by part.
use Rattle.std.proofs.Common.{◌≡◌, ℕ, zero, suc, ◌+◌, ◌/◌, ◌%◌, ◌<◌, ◌≤◌, ◌==◌, Bool, true, false, if◌then◌else◌, List, [], ◌∷◌, ◌++◌, length, get_or, map, refl, sym, ◌∙◌, ap, arith, length-append}
use Rattle.std.specs.Prelude.{codes}
use Rattle.std.specs.List.{concat}
use Rattle.std.proofs.lemmas.Bool.Decides.{nat_tests}
use Rattle.mx_print.specs.Texts.{Text, separated}
use Rattle.mx_print.specs.Values.{address_of, after_dot, escaped, quoted, padded}

-- ---- what is left to count

-- what the items from a place on count together
pub rest : {X : Type 0} → (X → ℕ) → List X → ℕ → ℕ
rest size [] i = 0
rest size (x ∷ xs) zero = size x + rest size xs zero
rest size (x ∷ xs) (suc i) = rest size xs i

pub rest_at : {X : Type 0} (size : X → ℕ) (xs : List X) (i : ℕ) (d : X) → i < length xs → rest size xs i ≡ size (get_or xs i d) + rest size xs (i + 1)
unfolding rest
rest_at size [] i d within = absurd (omega arith)
rest_at size (y ∷ ys) zero d within = refl
rest_at size (y ∷ ys) (suc i) d within =
    let e : i + 1 ≡ suc i = omega arith in
    let f : suc (suc i) ≡ suc i + 1 = omega arith in
    rest_at size ys i d (omega arith) ∙ ap (λ k. size (get_or ys i d) + rest size ys k) e ∙ ap (λ k. size (get_or ys i d) + rest size (y ∷ ys) k) f

pub rest_end : {X : Type 0} (size : X → ℕ) (xs : List X) (i : ℕ) → length xs ≤ i → rest size xs i ≡ 0
unfolding rest
rest_end size [] i past = refl
rest_end size (y ∷ ys) zero past = absurd (omega arith)
rest_end size (y ∷ ys) (suc i) past = rest_end size ys i (omega arith)

pub concat_length : {X : Type 0} (f : X → Text) (xs : List X) → length (concat (map f xs)) ≡ rest (λ x. length (f x)) xs 0
unfolding rest
concat_length f [] = refl
concat_length f (x ∷ xs) = length-append (f x) (concat (map f xs)) ∙ ap (λ n. length (f x) + n) (concat_length f xs)

-- ---- lists of which the first item counts otherwise

pub first_rest : {X : Type 0} → (X → ℕ) → (X → ℕ) → List X → ℕ → ℕ
first_rest first next [] i = 0
first_rest first next (x ∷ xs) zero = first x + rest next xs zero
first_rest first next (x ∷ xs) (suc i) = rest next xs i

first_step : {X : Type 0} (first next : X → ℕ) (xs : List X) (i : ℕ) (x : X) → i < length xs → x ≡ get_or xs i x → first_rest first next xs i ≡ (if i == 0 then first x else next x) + first_rest first next xs (i + 1)
unfolding first_rest
first_step first next [] i x within is = absurd (omega arith)
first_step first next (y ∷ ys) zero x within is = ap (λ z. first z + rest next ys zero) (sym is)
first_step first next (y ∷ ys) (suc i) x within is =
    let f : suc (suc i) ≡ suc i + 1 = omega arith in
    let e : i + 1 ≡ suc i = omega arith in
    let off : (suc i == 0) ≡ false = grind (arith, nat_tests) in
    rest_at next ys i x (omega arith) ∙ ap (λ z. next z + rest next ys (i + 1)) (sym is) ∙ ap (λ k. next x + rest next ys k) e ∙ ap (λ k. next x + first_rest first next (y ∷ ys) k) f
    ∙ ap (λ b. (if b then first x else next x) + first_rest first next (y ∷ ys) (suc i + 1)) (sym off)

pub first_end : {X : Type 0} (first next : X → ℕ) (xs : List X) (i : ℕ) → length xs ≤ i → first_rest first next xs i ≡ 0
unfolding first_rest
first_end first next [] i past = refl
first_end first next (y ∷ ys) zero past = absurd (omega arith)
first_end first next (y ∷ ys) (suc i) past = rest_end next ys i (omega arith)

-- ---- texts with a separator between each two

-- the bytes of the texts from a place on, each but the first with so many bytes in front
abbrev pub separated_from : {X : Type 0} → ℕ → (X → Text) → List X → ℕ → ℕ
separated_from s f xs i = first_rest (λ x. length (f x)) (λ x. s + length (f x)) xs i

by_place : (b : Bool) (s n r : ℕ) → (if b then n else s + n) + r ≡ (if b then 0 else s) + (n + r)
by_place true s n r = omega arith
by_place false s n r = omega arith

pub separated_step : {X : Type 0} (s : ℕ) (f : X → Text) (xs : List X) (i : ℕ) (x : X) → i < length xs → x ≡ get_or xs i x → separated_from s f xs i ≡ (if i == 0 then 0 else s) + (length (f x) + separated_from s f xs (i + 1))
separated_step s f xs i x within is =
    first_step (λ z. length (f z)) (λ z. s + length (f z)) xs i x within is ∙ by_place (i == 0) s (length (f x)) (separated_from s f xs (i + 1))

pub separated_end : {X : Type 0} (s : ℕ) (f : X → Text) (xs : List X) (i : ℕ) → length xs ≤ i → separated_from s f xs i ≡ 0
separated_end s f xs i past = first_end (λ x. length (f x)) (λ x. s + length (f x)) xs i past

tail_length : {X : Type 0} (s : Text) (f : X → Text) (xs : List X) → length (concat (map (λ (u : Text). s ++ u) (map f xs))) ≡ rest (λ x. length s + length (f x)) xs 0
unfolding rest
tail_length s f [] = refl
tail_length s f (x ∷ xs) =
    let more = concat (map (λ (u : Text). s ++ u) (map f xs)) in
    length-append (s ++ f x) more ∙ ap (λ n. n + length more) (length-append s (f x)) ∙ ap (λ n. length s + length (f x) + n) (tail_length s f xs)

pub separated_length : {X : Type 0} (s : Text) (f : X → Text) (xs : List X) → length (separated s (map f xs)) ≡ separated_from (length s) f xs 0
unfolding first_rest
separated_length s f [] = refl
separated_length s f (x ∷ xs) = length-append (f x) (concat (map (λ (u : Text). s ++ u) (map f xs))) ∙ ap (λ n. length (f x) + n) (tail_length s f xs)

-- ---- addresses

abbrev pub address_from : {X : Type 0} → (X → Text) → List X → ℕ → ℕ
address_from f xs i = first_rest (λ x. length (after_dot (f x))) (λ x. length (f x)) xs i

by_dot : (b : Bool) (s t : Text) (r : ℕ) → (if b then length s else length t) + r ≡ length (if b then s else t) + r
by_dot true s t r = refl
by_dot false s t r = refl

pub address_next : {X : Type 0} (f : X → Text) (xs : List X) (i : ℕ) (x : X) → i < length xs → x ≡ get_or xs i x → address_from f xs i ≡ length (if i == 0 then after_dot (f x) else f x) + address_from f xs (i + 1)
address_next f xs i x within is =
    first_step (λ z. length (after_dot (f z))) (λ z. length (f z)) xs i x within is ∙ by_dot (i == 0) (after_dot (f x)) (f x) (address_from f xs (i + 1))

pub address_end : {X : Type 0} (f : X → Text) (xs : List X) (i : ℕ) → length xs ≤ i → address_from f xs i ≡ 0
address_end f xs i past = first_end (λ x. length (after_dot (f x))) (λ x. length (f x)) xs i past

pub address_length : {X : Type 0} (f : X → Text) (xs : List X) → length (address_of (map f xs)) ≡ address_from f xs 0
unfolding first_rest
address_length f [] = refl
address_length f (x ∷ xs) = length-append (after_dot (f x)) (concat (map f xs)) ∙ ap (λ n. length (after_dot (f x)) + n) (concat_length f xs)

-- ---- texts in quotes and decimals

abbrev pub escaped_from : Text → ℕ → ℕ
escaped_from bs i = rest (λ b. length (escaped b)) bs i

pub escaped_step : (bs : Text) (i : ℕ) → i < length bs → escaped_from bs i ≡ length (escaped (get_or bs i 0)) + escaped_from bs (i + 1)
escaped_step bs i within = rest_at (λ b. length (escaped b)) bs i 0 within

pub escaped_end : (bs : Text) (i : ℕ) → length bs ≤ i → escaped_from bs i ≡ 0
escaped_end bs i past = rest_end (λ b. length (escaped b)) bs i past

pub quoted_length : (bs : Text) → length (quoted bs) ≡ 2 + escaped_from bs 0
quoted_length bs =
    let e = length-append (concat (map escaped bs)) (codes "\"") in
    let inner = concat_length escaped bs in
    omega arith

pub padded_length : (d n : ℕ) → length (padded d n) ≡ d
unfolding padded
padded_length zero n = refl
padded_length (suc k) n =
    let e = length-append (padded k (n / 10)) ((48 + n % 10) ∷ []) in
    let more = padded_length k (n / 10) in
    omega arith
