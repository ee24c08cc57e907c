-- A plain value is no larger than its text is long.
use Rattle.std.proofs.Common.{Bool, true, false, ◌≡◌, ℕ, zero, suc, ◌+◌, ◌≤◌, ◌<◌, ◌/◌, ◌%◌, ◌^◌, ◌==◌, ◌&&◌, ◌||◌, ◌++◌, ℤ, pos, negsuc, List, [], ◌∷◌, map, sum, length, if◌then◌else◌, refl, sym, ◌∙◌, ap, subst, arith, length-append}
use Rattle.std.specs.Prelude.{codes}
use Rattle.std.specs.List.{list_all, concat}
use Rattle.std.specs.Int.{is_negative}
use Rattle.std.specs.Prelude.{unsigned_abs}
use Rattle.std.proofs.lemmas.List.Sums.{sum_by-cons}
use Rattle.std.specs.Fmt.{decimal, digits, digits_onto, digit_glyph, signed_decimal}
use Rattle.mx_value.specs.declared.value.Value.{Value}
use Rattle.mx_value.specs.declared.value.Segment.{Segment}
use Rattle.mx_value.specs.declared.value.CellsAt.{CellsAt}
use Rattle.mx_value.specs.declared.value.Segment.TheOpen.{Value-F}
use Rattle.mx_value.specs.declared.value.Segment.TheFolds.{fold-roll-Value, map-Value, ind-Value}
use Rattle.mx_value.specs.declared.value.Segment.TheViews.{roll-Value}
use Rattle.mx_value.specs.Plain.{is_plain}
use Rattle.mx_value.specs.Size.{size_of}
use Rattle.mx_print.specs.Texts.{Text}
use Rattle.mx_print.specs.Values.{value_text, fixed_text, decimals, quoted, escaped, tuple_text}

abbrev Fits : Value → Type 0
Fits v = is_plain v ≡ true → size_of v ≤ length (value_text v)

-- ---- numbers

digits_by : (b : Bool) (d : ℕ) (acc rest : List ℕ) → length acc < length rest → length acc < length (if b then d ∷ acc else rest)
digits_by true d acc rest l = omega arith
digits_by false d acc rest l = l

onto_more : (k base : ℕ) (upper : Bool) (n : ℕ) (acc : List ℕ) → length acc ≤ length (digits_onto k base upper n acc)
onto_more zero base upper n acc = omega arith
onto_more (suc k) base upper n acc =
    let d = digit_glyph upper (n % base) in
    let r = onto_more k base upper (n / base) (d ∷ acc) in
    let l : length acc < length (digits_onto k base upper (n / base) (d ∷ acc)) = omega arith in
    let m = digits_by (n / base == 0) d acc (digits_onto k base upper (n / base) (d ∷ acc)) l in omega arith

some_digits : (n : ℕ) → 0 < length (decimal n)
unfolding digits
some_digits n =
    let d = digit_glyph false (n % 10) in
    let rest = digits_onto 63 10 false (n / 10) (d ∷ []) in
    let r = onto_more 63 10 false (n / 10) (d ∷ []) in
    let l : length {A = ℕ} [] < length rest = omega arith in
    digits_by (n / 10 == 0) d [] rest l

int_some : (n : ℤ) → 1 ≤ length (signed_decimal n)
int_some (pos n) = let l = some_digits n in omega arith
int_some (negsuc n) = omega arith

fixed_some : (x : ℤ) → 1 ≤ length (fixed_text x)
fixed_some x =
    let sign = if is_negative x then codes "-" else [] in
    let whole = decimal (unsigned_abs x / 10 ^ 9) in
    let rest = codes "." ++ decimals 9 (unsigned_abs x % 10 ^ 9) in
    let l = some_digits (unsigned_abs x / 10 ^ 9) in
    omega (arith, length-append sign (whole ++ rest), length-append whole rest)

-- ---- texts

escaped_some : (b : ℕ) → 1 ≤ length (escaped b)
escaped_some b = by_test ((b == 34) || (b == 92))
  where
    by_test : (t : Bool) → 1 ≤ length (if t then 92 ∷ b ∷ [] else b ∷ [])
    by_test true = omega arith
    by_test false = omega arith

all_escaped : (t : Text) → length t ≤ length (concat (map escaped t))
all_escaped [] = omega arith
all_escaped (b ∷ t) = let e = escaped_some b in let r = all_escaped t in omega (arith, length-append (escaped b) (concat (map escaped t)))

quoted_long : (t : Text) → 1 + length t ≤ length (quoted t)
quoted_long t =
    let l = all_escaped t in
    omega (arith, length-append (concat (map escaped t)) (codes "\""))

-- ---- tuples

abbrev Item : Type 0
Item = (v : Value) × Fits v

abbrev values : List Item → List Value
values items = map (λ e. e.0) items

abbrev texts : List Item → List Text
texts items = map value_text (values items)

abbrev sizes : List Item → ℕ
sizes items = sum (map size_of (values items))

abbrev are_plain : List Item → Bool
are_plain items = list_all (λ plain. plain) (map is_plain (values items))

both : (a b : Bool) → (a && b) ≡ true → (a ≡ true) × (b ≡ true)
both true b e = (refl, e)
both false b e = absurd (let f : false ≡ true = e in cc)

longer : (n s : ℕ) (t rest : Text) → n ≤ length t → s ≤ length rest → n + s ≤ length (codes ", " ++ (t ++ rest))
longer n s t rest l r = omega (arith, length-append t rest)

sizes_more : (v : Item) (items : List Item) → sizes (v ∷ items) ≡ size_of v.0 + sizes items
sizes_more v items = sum_by-cons (λ n. n) (size_of v.0) (map size_of (values items))

rest_long : (items : List Item) → are_plain items ≡ true → sizes items ≤ length (concat (map (λ (u : Text). codes ", " ++ u) (texts items)))
rest_long [] p = omega arith
rest_long (v ∷ items) p =
    let ps = both (is_plain v.0) (are_plain items) p in
    let l = v.1 ps.0 in
    let r = rest_long items ps.1 in
    let rest = concat (map (λ (u : Text). codes ", " ++ u) (texts items)) in
    let m = sizes_more v items in
    let k = longer (size_of v.0) (sizes items) (value_text v.0) rest l r in
    subst (λ (n : ℕ). n ≤ length (codes ", " ++ (value_text v.0 ++ rest))) (sym m) k

closed : (n s : ℕ) (t rest : Text) → n ≤ length t → s ≤ length rest → 1 + (n + s) ≤ length (codes "(" ++ ((t ++ rest) ++ codes ")"))
closed n s t rest l r = omega (arith, length-append t rest, length-append (t ++ rest) (codes ")"))

tuple_long : (items : List Item) → are_plain items ≡ true → 1 + sizes items ≤ length (tuple_text (texts items))
tuple_long [] p = omega arith
tuple_long (v ∷ []) p =
    let ps = both (is_plain v.0) true p in
    let l = v.1 ps.0 in
    let m = sizes_more v [] in
    let z : sizes [] ≡ 0 = refl in
    let k : 1 + size_of v.0 ≤ length (codes "(" ++ (value_text v.0 ++ codes ",)")) = omega (arith, length-append (value_text v.0) (codes ",)")) in
    let n : sizes (v ∷ []) ≡ size_of v.0 = omega arith in
    subst (λ (n : ℕ). 1 + n ≤ length (codes "(" ++ (value_text v.0 ++ codes ",)"))) (sym n) k
tuple_long (v ∷ (w ∷ items)) p =
    let ps = both (is_plain v.0) (are_plain (w ∷ items)) p in
    let l = v.1 ps.0 in
    let r = rest_long (w ∷ items) ps.1 in
    let rest = concat (map (λ (u : Text). codes ", " ++ u) (texts (w ∷ items))) in
    let k = closed (size_of v.0) (sizes (w ∷ items)) (value_text v.0) rest l r in
    subst (λ (n : ℕ). 1 + n ≤ length (codes "(" ++ ((value_text v.0 ++ rest) ++ codes ")"))) (sym (sizes_more v (w ∷ items))) k

-- ---- all values

abbrev Layer : Type 0
Layer = Value-F ((s : Segment) × Unit {0}) Item ((c : CellsAt) × Unit {0})

fits_by : (v : Value) (n : ℕ) (t : Text) → size_of v ≡ n → value_text v ≡ t → n ≤ length t → Fits v
fits_by v n t e f l p = let g = ap length f in let l2 : n ≤ length t = l in omega arith

never : (v : Value) → is_plain v ≡ false → Fits v
never v e p = absurd (let f : false ≡ true = sym e ∙ p in cc)

flag_some : (b : Bool) → 1 ≤ length (if b then codes "True" else codes "False")
flag_some true = omega arith
flag_some false = omega arith

layer_fits : (y : Layer) → Fits (roll-Value (map-Value _ _ _ Segment Value CellsAt (λ e. e.0) (λ e. e.0) (λ e. e.0) y))
layer_fits Value-F.Nothing = fits_by _ _ _ (fold-roll-Value _ _ _ _ _ _ Value-F.Nothing) (fold-roll-Value _ _ _ _ _ _ Value-F.Nothing) (omega arith)
layer_fits (Value-F.Flag b) = fits_by _ _ _ (fold-roll-Value _ _ _ _ _ _ (Value-F.Flag b)) (fold-roll-Value _ _ _ _ _ _ (Value-F.Flag b)) (flag_some b)
layer_fits (Value-F.Int n) = fits_by _ _ _ (fold-roll-Value _ _ _ _ _ _ (Value-F.Int n)) (fold-roll-Value _ _ _ _ _ _ (Value-F.Int n)) (int_some n)
layer_fits (Value-F.Fix x) = fits_by _ _ _ (fold-roll-Value _ _ _ _ _ _ (Value-F.Fix x)) (fold-roll-Value _ _ _ _ _ _ (Value-F.Fix x)) (fixed_some x)
layer_fits (Value-F.Text t) = fits_by _ _ _ (fold-roll-Value _ _ _ _ _ _ (Value-F.Text t)) (fold-roll-Value _ _ _ _ _ _ (Value-F.Text t)) (quoted_long t)
layer_fits (Value-F.Tup items) = λ p.
    let plain : are_plain items ≡ true = sym (fold-roll-Value _ _ _ _ _ _ (Value-F.Tup (values items))) ∙ p in
    fits_by _ _ _ (fold-roll-Value _ _ _ _ _ _ (Value-F.Tup (values items))) (fold-roll-Value _ _ _ _ _ _ (Value-F.Tup (values items))) (tuple_long items plain) p
layer_fits (Value-F.Space segments) = never _ (fold-roll-Value _ _ _ _ _ _ (Value-F.Space (map (λ e. e.0) segments)))
layer_fits (Value-F.Cells at) = never _ (fold-roll-Value _ _ _ _ _ _ (Value-F.Cells at.0))
layer_fits (Value-F.Table b) = never _ (fold-roll-Value _ _ _ _ _ _ (Value-F.Table b))

pub text_fits : (v : Value) → is_plain v ≡ true → size_of v ≤ length (value_text v)
text_fits = ind-Value (λ s. Unit {0}) Fits (λ c. Unit {0}) (λ x y is. tt)
    (λ x y is. subst (λ (z : Value-F Segment Value CellsAt). Fits (roll-Value z)) is (layer_fits y))
    (λ x y is. tt)
