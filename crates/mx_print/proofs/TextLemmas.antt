-- One part more in a loop that writes a text.
use Rattle.std.proofs.Common.{◌≡◌, ◌≢◌, ℕ, zero, suc, ◌+◌, ◌-◌, ◌/◌, ◌%◌, ◌==◌, ◌&&◌, nat_lt, if◌then◌else◌, Bool, true, false, ◌≤◌, ◌<◌, List, [], ◌∷◌, ◌++◌, length, get_or, map, take, refl, sym, ap, ◌∙◌, append_assoc, append-nil, arith}
use Rattle.std.proofs.lemmas.List.{take_more, length-take, map-append}
use Rattle.std.proofs.lemmas.List.Folds.{concat-append}
use Rattle.std.specs.List.{concat}
use Rattle.std.proofs.lemmas.Bool.Decides.{nat_tests}
use Rattle.mx_print.specs.Texts.{Text, separated}
use Rattle.mx_syntax.proofs.ListLemmas.{take_next}
use Rattle.mx_print.specs.Values.{address_of, after_dot, escaped, padded, decimals}

concat_last : (ts : List Text) (t : Text) → concat (ts ++ t ∷ []) ≡ concat ts ++ t
concat_last ts t = concat-append ts (t ∷ []) ∙ ap (λ (u : Text). concat ts ++ u) (append-nil t)

separated_last : (s : Text) (y : Text) (ts : List Text) (t : Text) → separated s ((y ∷ ts) ++ t ∷ []) ≡ separated s (y ∷ ts) ++ (s ++ t)
separated_last s y ts t =
    ap (λ (us : List Text). y ++ concat us) (map-append (λ (u : Text). s ++ u) ts (t ∷ [])) ∙ ap (λ (u : Text). y ++ u) (concat_last (map (λ (u : Text). s ++ u) ts) (s ++ t))
    ∙ sym (append_assoc y (concat (map (λ (u : Text). s ++ u) ts)) (s ++ t))

module _ {X : Type 0} (f : X → Text) where
  map_next : (xs : List X) (i : ℕ) (x : X) → i < length xs → x ≡ get_or xs i x → map f (take (i + 1) xs) ≡ map f (take i xs) ++ f x ∷ []
  map_next xs i x lt is = ap (λ (ys : List X). map f ys) (take_next xs i x lt is) ∙ map-append f (take i xs) (x ∷ [])

  pub separated_first : (s out : Text) (xs : List X) (i : ℕ) (x : X) → i ≡ 0 → i < length xs → x ≡ get_or xs i x → (out ++ separated s (map f (take i xs))) ++ f x ≡ out ++ separated s (map f (take (i + 1) xs))
  separated_first s out xs i x none lt is =
      ap (λ (k : ℕ). (out ++ separated s (map f (take k xs))) ++ f x) none ∙ ap (λ (t : Text). t ++ f x) (append-nil out)
      ∙ ap (λ (t : Text). out ++ t) (sym (append-nil (f x)) ∙ ap (λ (k : ℕ). separated s (map f (take k xs) ++ f x ∷ [])) (sym none) ∙ ap (λ (ts : List Text). separated s ts) (sym (map_next xs i x lt is)))

  more_by : (s out : Text) (ys : List X) (x : X) → 0 < length ys → ((out ++ separated s (map f ys)) ++ s) ++ f x ≡ out ++ separated s (map f ys ++ f x ∷ [])
  more_by s out [] x some = absurd (omega arith)
  more_by s out (y ∷ ys) x some =
      append_assoc (out ++ separated s (map f (y ∷ ys))) s (f x) ∙ append_assoc out (separated s (map f (y ∷ ys))) (s ++ f x)
      ∙ ap (λ (t : Text). out ++ t) (sym (separated_last s (f y) (map f ys) (f x)))

  pub separated_more : (s out : Text) (xs : List X) (i : ℕ) (x : X) → 0 < i → i < length xs → x ≡ get_or xs i x → ((out ++ separated s (map f (take i xs))) ++ s) ++ f x ≡ out ++ separated s (map f (take (i + 1) xs))
  separated_more s out xs i x some lt is =
      more_by s out (take i xs) x (omega (arith, length-take i xs)) ∙ ap (λ (ts : List Text). out ++ separated s ts) (sym (map_next xs i x lt is))

  pub address_first : (out : Text) (xs : List X) (i : ℕ) (x : X) → i ≡ 0 → i < length xs → x ≡ get_or xs i x → (out ++ address_of (map f (take i xs))) ++ after_dot (f x) ≡ out ++ address_of (map f (take (i + 1) xs))
  address_first out xs i x none lt is =
      ap (λ (k : ℕ). (out ++ address_of (map f (take k xs))) ++ after_dot (f x)) none ∙ ap (λ (t : Text). t ++ after_dot (f x)) (append-nil out)
      ∙ ap (λ (t : Text). out ++ t) (sym (append-nil (after_dot (f x))) ∙ ap (λ (k : ℕ). address_of (map f (take k xs) ++ f x ∷ [])) (sym none) ∙ ap (λ (ts : List Text). address_of ts) (sym (map_next xs i x lt is)))

  address_by : (out : Text) (ys : List X) (x : X) → 0 < length ys → (out ++ address_of (map f ys)) ++ f x ≡ out ++ address_of (map f ys ++ f x ∷ [])
  address_by out [] x some = absurd (omega arith)
  address_by out (y ∷ ys) x some =
      append_assoc out (address_of (map f (y ∷ ys))) (f x) ∙ ap (λ (t : Text). out ++ t) (append_assoc (after_dot (f y)) (concat (map f ys)) (f x) ∙ ap (λ (t : Text). after_dot (f y) ++ t) (sym (concat_last (map f ys) (f x))))

  pub address_more : (out : Text) (xs : List X) (i : ℕ) (x : X) → 0 < i → i < length xs → x ≡ get_or xs i x → (out ++ address_of (map f (take i xs))) ++ f x ≡ out ++ address_of (map f (take (i + 1) xs))
  address_more out xs i x some lt is =
      address_by out (take i xs) x (omega (arith, length-take i xs)) ∙ ap (λ (ts : List Text). out ++ address_of ts) (sym (map_next xs i x lt is))

  pub address_step : (first : Bool) (out : Text) (xs : List X) (i : ℕ) (x : X) → (first ≡ true → i ≡ 0) → (first ≡ false → 0 < i) → i < length xs → x ≡ get_or xs i x
      → (out ++ address_of (map f (take i xs))) ++ (if first then after_dot (f x) else f x) ≡ out ++ address_of (map f (take (i + 1) xs))
  address_step true out xs i x none some lt is = address_first out xs i x (none refl) lt is
  address_step false out xs i x none some lt is = address_more out xs i x (some refl) lt is

-- one byte more of a text in quotes
pub escaped_more : (out : Text) (bs : Text) (i : ℕ) → i < length bs → (out ++ concat (map escaped (take i bs))) ++ escaped (get_or bs i 0) ≡ out ++ concat (map escaped (take (i + 1) bs))
escaped_more out bs i lt =
    append_assoc out (concat (map escaped (take i bs))) (escaped (get_or bs i 0))
    ∙ ap (λ (t : Text). out ++ t) (sym (concat_last (map escaped (take i bs)) (escaped (get_or bs i 0))) ∙ ap concat (sym (map-append escaped (take i bs) (get_or bs i 0 ∷ []))) ∙ ap (λ (ts : Text). concat (map escaped ts)) (sym (take_more bs i 0 lt)))

pub padded_none : (d n : ℕ) → d ≡ 0 → padded d n ≡ []
unfolding padded
padded_none zero n none = refl
padded_none (suc k) n none = absurd (omega arith)

pub padded_more : (d n : ℕ) → d ≢ 0 → padded d n ≡ padded (d - 1) (n / 10) ++ (48 + n % 10) ∷ []
unfolding padded
padded_more zero n some = absurd (some refl)
padded_more (suc k) n some = let e : suc k - 1 ≡ k = omega arith in rw e refl

pub decimals_short : (d n : ℕ) → d ≤ 1 → decimals d n ≡ padded d n
unfolding padded decimals
decimals_short zero n short = refl
decimals_short (suc k) n short =
    let none : k ≡ 0 = omega arith in
    let e : (nat_lt 0 k && (n % 10 == 0)) ≡ false = ap (λ (j : ℕ). nat_lt 0 j && (n % 10 == 0)) none in
    rw e refl

both_false : (b : Bool) → (b && false) ≡ false
both_false true = refl
both_false false = refl

pub decimals_last : (d n : ℕ) → n % 10 ≢ 0 → decimals d n ≡ padded d n
unfolding padded decimals
decimals_last zero n some = refl
decimals_last (suc k) n some =
    let off : (n % 10 == 0) ≡ false = grind (arith, nat_tests) in
    let e : (nat_lt 0 k && (n % 10 == 0)) ≡ false = rw off (both_false (nat_lt 0 k)) in
    rw e refl

pub decimals_more : (d n : ℕ) → 1 < d → n % 10 ≡ 0 → decimals d n ≡ decimals (d - 1) (n / 10)
unfolding decimals
decimals_more zero n long ends = absurd (omega arith)
decimals_more (suc k) n long ends =
    let more : 0 < k = omega arith in
    let on : nat_lt 0 k ≡ true = grind (arith, nat_tests) in
    let is : (n % 10 == 0) ≡ true = grind (arith, nat_tests) in
    let e : (nat_lt 0 k && (n % 10 == 0)) ≡ true = rw (on, is) refl in
    let p : suc k - 1 ≡ k = omega arith in
    rw (e, p) refl
