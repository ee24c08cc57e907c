-- The numbers of a range.
use Rattle.std.proofs.Common.{◌≡◌, ◌≢◌, ◌↔◌, ℕ, zero, suc, ◌+◌, ◌-◌, ◌*◌, ◌/◌, ◌<◌, ◌≤◌, true, false, ℤ, pos, negsuc, ◌+ℤ◌, ◌-ℤ◌, ◌*ℤ◌, ◌<ℤ◌, ◌≤ℤ◌, FitsSigned, [], ◌∷◌, map, sum, Ok, Err, refl, sym, ◌∙◌, ap, arith}
use Rattle.std.specs.Int.{w64}
use Rattle.std.proofs.lemmas.Int.{ints}
use Rattle.std.proofs.lemmas.List.{map-append}
use Rattle.std.proofs.Math.Nat.{le-div_iff_mul-le, suc-mul}
use Rattle.mx_value.specs.Size.{size_of}
use Rattle.mx_value.specs.Nesting.{nesting_of, greatest}
use Rattle.mx_value.specs.declared.value.Value.{Value}
use Rattle.mx_value.specs.declared.value.Value.TheVariants as made
use Rattle.mx_value.specs.declared.value.Segment.TheOpen.{Value-F}
use Rattle.mx_value.specs.declared.value.Segment.TheFolds.{fold-roll-Value}
use Rattle.mx_value.specs.declared.fault.FaultKind.TheVariants.{TooLarge}
use Rattle.std.specs.Prelude.{IsOk}
use Rattle.std.proofs.Common.{rules}
use Rattle.mx_ops.specs.Answers.{Answer, is_allowed}
use Rattle.mx_ops.specs.Ranges.{steps, range_length, numbers_from, range, UpToTheEnd, DownToTheEnd}
use Rattle.mx_ops.proofs.Sizes.{size-Tup, nesting-Tup, joined_sum, greatest-append}
use Rattle.mx_ops.proofs.Tests.{le-yes, le-no}

-- ---- sizes

size-Int : (n : ℤ) → size_of (made.Int n) ≡ 1
size-Int n = ap size_of (sym (made.rolls-Int n)) ∙ fold-roll-Value _ _ _ _ _ _ (Value-F.Int n)

nesting-Int : (n : ℤ) → nesting_of (made.Int n) ≡ 0
nesting-Int n = ap nesting_of (sym (made.rolls-Int n)) ∙ fold-roll-Value _ _ _ _ _ _ (Value-F.Int n)

one_size : (n : ℤ) → sum (map size_of (made.Int n ∷ [])) ≡ 1
one_size n = omega (arith, size-Int n)

sizes : (from step : ℤ) (n : ℕ) → sum (map size_of (numbers_from from step n)) ≡ n
sizes from step zero = refl
sizes from step (suc n) =
    let last : Value = made.Int (from +ℤ pos n *ℤ step) in
    let e = joined_sum (numbers_from from step n) (last ∷ []) in
    let f = one_size (from +ℤ pos n *ℤ step) in
    let g = sizes from step n in
    omega (arith, e, f, g)

nestings : (from step : ℤ) (n : ℕ) → greatest (map nesting_of (numbers_from from step n)) ≡ 0
nestings from step zero = refl
nestings from step (suc n) =
    let last : Value = made.Int (from +ℤ pos n *ℤ step) in
    let e = ap greatest (map-append nesting_of (numbers_from from step n) (last ∷ [])) ∙ greatest-append (map nesting_of (numbers_from from step n)) (map nesting_of (last ∷ [])) in
    let f = nesting-Int (from +ℤ pos n *ℤ step) in
    let g = nestings from step n in
    omega (arith, e, f, g)

size : (from step : ℤ) (n : ℕ) → size_of (made.Tup (numbers_from from step n)) ≡ 1 + n
size from step n = size-Tup (numbers_from from step n) ∙ ap (λ m. 1 + m) (sizes from step n)

nesting : (from step : ℤ) (n : ℕ) → nesting_of (made.Tup (numbers_from from step n)) ≡ 1
nesting from step n = nesting-Tup (numbers_from from step n) ∙ ap (λ m. 1 + m) (nestings from step n)

allowed : (from step : ℤ) (n : ℕ) → n ≤ 999_999 → is_allowed (made.Tup (numbers_from from step n)) ≡ true
allowed from step n h = rw (size from step n, nesting from step n, le-yes (1 + n) 1_000_000 (omega arith)) refl

refused : (from step : ℤ) (n : ℕ) → 999_999 < n → is_allowed (made.Tup (numbers_from from step n)) ≡ false
refused from step n h = rw (size from step n, le-no (1 + n) 1_000_000 (λ k. absurd (omega arith))) refl

pub too_large : (from to step : ℤ) → step ≢ pos 0 → 999_999 < range_length from to step → range from to step ≡ Err TooLarge
too_large from to (pos zero) e h = absurd (e refl)
too_large from to (pos (suc d)) e h = rw (refused from (pos (suc d)) _ h) refl
too_large from to (negsuc d) e h = rw (refused from (negsuc d) _ h) refl

pub within : (from to step : ℤ) → step ≢ pos 0 → range_length from to step ≤ 999_999 → range from to step ≡ Ok (made.Tup (numbers_from from step (range_length from to step)))
within from to (pos zero) e h = absurd (e refl)
within from to (pos (suc d)) e h = rw (allowed from (pos (suc d)) _ h) refl
within from to (negsuc d) e h = rw (allowed from (negsuc d) _ h) refl

pub is_given : (answer : Answer) (v : Value) → answer ≡ Ok v → IsOk answer
is_given answer v e = rw e (search rules)

-- ---- how many

quotient : (i w d : ℕ) → i < (w + d) / suc d ↔ (i * suc d < w)
quotient i w d =
    let e = le-div_iff_mul-le {k = suc d} {x = suc i} {y = w + d} (omega arith) in
    let m : suc i * suc d ≡ i * suc d + suc d = suc-mul i (suc d) in
    (λ h. let k : suc i * suc d ≤ w + d = e.0 h in omega (arith, m, k), λ h. let k : suc i * suc d ≤ w + d = omega (arith, m, h) in e.1 k)

counted : (way : ℤ) (d i : ℕ) → i < steps way (suc d) ↔ (pos (i * suc d) <ℤ way)
counted (pos w) d i =
    let one_less : suc d - 1 ≡ d = omega arith in
    let e = quotient i w d in
    rw one_less (λ h. let l = e.0 h in omega (arith, ints), λ h. e.1 (omega (arith, ints)))
counted (negsuc w) d i = (λ h. absurd (omega arith), λ h. absurd (omega (arith, ints)))

pub up : UpToTheEnd
up from to d i =
    let e = counted (to -ℤ from) d i in
    (λ h. let l = e.0 h in omega (arith, ints), λ h. e.1 (omega (arith, ints)))

pub down : DownToTheEnd
down from to d i =
    let e = counted (from -ℤ to) d i in
    (λ h. let l = e.0 h in omega (arith, ints), λ h. e.1 (omega (arith, ints)))

between : (z a b : ℤ) → FitsSigned w64 a → FitsSigned w64 b → a ≤ℤ z → z ≤ℤ b → FitsSigned w64 z
between (pos n) a b f g h k = record { sfits = omega (arith, ints) }
between (negsuc n) a b f g h k = record { sfits = omega (arith, ints) }

-- each number of a range has 64 bits
pub number-fits : (from to step : ℤ) → FitsSigned w64 from → FitsSigned w64 to → step ≢ pos 0 → (i : ℕ) → i < range_length from to step → FitsSigned w64 (from +ℤ pos i *ℤ step)
number-fits from to (pos zero) f g e i h = absurd (e refl)
number-fits from to (pos (suc d)) f g e i h =
    let l = (up from to d i).0 h in
    between _ from to f g (omega (arith, ints)) (omega (arith, ints))
number-fits from to (negsuc d) f g e i h =
    let l = (down from to d i).0 h in
    between _ to from g f (omega (arith, ints)) (omega (arith, ints))
