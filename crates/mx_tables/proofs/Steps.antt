-- One name, one field and one record more.
use Rattle.std.proofs.Common.{◌≡◌, ℕ, ℤ, zero, suc, ◌+◌, ◌≤◌, ◌<◌, List, [], ◌∷◌, ◌++◌, length, get_or, take, drop, map, Bool, true, false, not, nat_lt, Option, Some, None, Result, Ok, Err, refl, sym, ap, ◌∙◌, append_assoc, append-nil, inl, inr, arith}
use Rattle.std.specs.List.{list_all, prefix_len, position}
use Rattle.std.proofs.lemmas.Bool.{cases_Bool, and_parts}
use Rattle.std.proofs.lemmas.Bool.Decides.{nat_tests}
use Rattle.std.proofs.lemmas.List.{take_more}
use Rattle.std.proofs.lemmas.List.Folds.{list_all_at, list_all_more}
use Rattle.csv.proofs.RecordFacts.{field-get}
use Rattle.csv.specs.Records.{field_at}
use Rattle.mx_value.specs.declared.value.Value.{Value}
use Rattle.mx_value.specs.Label.{is_printable, first_unprintable}
use Rattle.mx_tables.specs.Numbers.{number_of}
use Rattle.mx_tables.specs.Records.{Records}
use Rattle.mx_tables.specs.Reading.{result_map, numbers_said, are_printable, RowSaid, record_said}
use Rattle.mx_tables.specs.Fronts.{FrontSaid, front_then, front_said, behind}
use Rattle.mx_edit.specs.declared.table.TableRefusal.{TableRefusal}

-- ---- names

all_long : {A : Type 0} (p : A → Bool) (xs : List A) → list_all p xs ≡ true → prefix_len (λ x. not (not (p x))) xs ≡ length xs
all_long p [] h = refl
all_long p (x ∷ xs) h =
    let both = and_parts (p x) (list_all p xs) h in
    let later = all_long p xs both.1 in
    let first = both.0 in
    rw first (omega (arith, later))

-- where all pass, none that does not is found
pub none_found : {A : Type 0} (p : A → Bool) (xs : List A) → list_all p xs ≡ true → position (λ x. not (p x)) xs ≡ None
none_found p xs h =
    let long = all_long p xs h in
    let none : nat_lt (length xs) (length xs) ≡ false = grind (arith, nat_tests) in
    rw (long, none) refl

short : {A : Type 0} (p : A → Bool) (xs : List A) → list_all p xs ≡ false → nat_lt (prefix_len (λ x. not (not (p x))) xs) (length xs) ≡ true
short p [] h = cc h
short p (x ∷ xs) h = elim (cases_Bool (p x)) [
  | inl t ↦ let later = short p xs (rw t at h) in rw t (grind (arith, nat_tests, later))
  | inr f ↦ let some : nat_lt 0 (length (x ∷ xs)) ≡ true = grind (arith, nat_tests) in rw f some
]

-- where none that does not pass is found, all pass
pub all_pass : {A : Type 0} (p : A → Bool) (xs : List A) → position (λ x. not (p x)) xs ≡ None → list_all p xs ≡ true
all_pass p xs e = elim (cases_Bool (list_all p xs)) [
  | inl t ↦ t
  | inr f ↦ let found = short p xs f in let bad = rw found at e in cc (bad)
]

unprintable : (bytes : List ℕ) (i : ℕ) → first_unprintable bytes ≡ Some i → list_all is_printable bytes ≡ false
unprintable bytes i e = elim (cases_Bool (list_all is_printable bytes)) [
  | inl t ↦ let bad = sym (none_found is_printable bytes t) ∙ e in cc (bad)
  | inr f ↦ f
]

pub name_bad : (names : List (List ℕ)) (p : ℕ) (name : List ℕ) (i : ℕ) → p < length names → field_at names p ≡ Some name → first_unprintable name ≡ Some i → are_printable names ≡ false
name_bad names p name i lt there is =
    list_all_at (λ n. list_all is_printable n) names p [] lt (ap (λ n. list_all is_printable n) (field-get names p name there) ∙ unprintable name i is)

pub name_more : (names : List (List ℕ)) (p : ℕ) (name : List ℕ) (done : List (List ℕ)) → p < length names → field_at names p ≡ Some name → first_unprintable name ≡ None
    → (done ≡ take p names) × (are_printable (take p names) ≡ true) → (done ++ name ∷ [] ≡ take (p + 1) names) × (are_printable (take (p + 1) names) ≡ true)
name_more names p name done lt there good so =
    let got = field-get names p name there in
    let more : take (p + 1) names ≡ take p names ++ name ∷ [] = take_more names p [] lt ∙ ap (λ n. take p names ++ n ∷ []) got in
    let one = all_pass is_printable name good in
    let front = so.1 in
    let all : are_printable (take (p + 1) names) ≡ true = list_all_more (λ n. list_all is_printable n) names p [] lt ∙ rw (got, one, front) refl in
    (ap (λ l. l ++ name ∷ []) so.0 ∙ sym more, all)

-- ---- fields

drop_at : (fields : List (List ℕ)) (p : ℕ) (field : List ℕ) → field_at fields p ≡ Some field → drop p fields ≡ field ∷ drop (suc p) fields
unfolding field_at
drop_at [] p field e = cc e
drop_at (f ∷ fs) zero field e = let same : f ≡ field = cc e in ap (λ (x : List ℕ). x ∷ fs) same
drop_at (f ∷ fs) (suc p) field e = drop_at fs p field e

drop_next : (fields : List (List ℕ)) (p : ℕ) (field : List ℕ) → field_at fields p ≡ Some field → drop p fields ≡ field ∷ drop (p + 1) fields
drop_next fields p field e = let s : suc p ≡ p + 1 = omega arith in drop_at fields p field e ∙ ap (λ n. field ∷ drop n fields) s

joined : (done : List Value) (v : Value) (rest : Result (List Value) ℕ) → result_map (λ later. done ++ later) (result_map (λ numbers. v ∷ numbers) rest) ≡ result_map (λ later. (done ++ v ∷ []) ++ later) rest
joined done v (Err column) = refl
joined done v (Ok numbers) = ap Ok (sym (append_assoc done (v ∷ []) numbers))

pub number_more : (fields : List (List ℕ)) (p : ℕ) (field : List ℕ) (done : List Value) (v : Value) → field_at fields p ≡ Some field → number_of field ≡ Some v
    → result_map (λ later. done ++ later) (numbers_said p (drop p fields)) ≡ result_map (λ later. (done ++ v ∷ []) ++ later) (numbers_said (p + 1) (drop (p + 1) fields))
unfolding numbers_said
number_more fields p field done v there is = let cut = drop_next fields p field there in rw (cut, is) (joined done v (numbers_said (p + 1) (drop (p + 1) fields)))

pub number_bad : (fields : List (List ℕ)) (p : ℕ) (field : List ℕ) → field_at fields p ≡ Some field → number_of field ≡ None → numbers_said p (drop p fields) ≡ Err p
unfolding numbers_said
number_bad fields p field there none = let cut = drop_next fields p field there in rw (cut, none) refl

drop_all : {A : Type 0} (xs : List A) (p : ℕ) → length xs ≤ p → drop p xs ≡ []
drop_all [] zero h = refl
drop_all [] (suc p) h = refl
drop_all (x ∷ xs) zero h = absurd (omega arith)
drop_all (x ∷ xs) (suc p) h = drop_all xs p (omega arith)

pub number_end : (fields : List (List ℕ)) (p : ℕ) (done : List Value) → length fields ≤ p → result_map (λ later. done ++ later) (numbers_said p (drop p fields)) ≡ Ok done
unfolding numbers_said
number_end fields p done h = let none = drop_all fields p h in rw none (ap Ok (append-nil done))

pub number_start : (said : Result (List Value) ℕ) → said ≡ result_map (λ later. [] ++ later) said
number_start (Ok numbers) = refl
number_start (Err column) = refl

-- ---- records

pub cut_at : {A B : Type 0} (f : A → B) (xs : List A) (p : ℕ) (x : A) → p < length xs → x ≡ get_or xs p x → drop p (map f xs) ≡ f x ∷ drop (p + 1) (map f xs)
cut_at f [] p x lt is = absurd (omega arith)
cut_at f (y ∷ ys) zero x lt is = ap (λ z. f z ∷ map f ys) (sym is)
cut_at f (y ∷ ys) (suc p) x lt is = let step : suc p + 1 ≡ suc (p + 1) = omega arith in rw step (cut_at f ys p x (omega arith) is)

behind_joined : (keys : List ℤ) (rows : List (List Value)) (row : RowSaid) (rest : FrontSaid) → behind keys rows (front_then (Ok row) rest) ≡ behind (keys ++ row.key ∷ []) (rows ++ row.numbers ∷ []) rest
behind_joined keys rows row rest =
    let ks = sym (append_assoc keys (row.key ∷ []) rest.keys) in
    let rs = sym (append_assoc rows (row.numbers ∷ []) rest.rows) in
    λ i. record { keys = ks i; rows = rs i; trouble = rest.trouble }

pub record_more : (records : Records) (count n p : ℕ) (fields : List (List ℕ)) (keys : List ℤ) (rows : List (List Value)) (row : RowSaid) → drop p records ≡ fields ∷ drop (p + 1) records → record_said count n fields ≡ Ok row
    → behind keys rows (front_said count n (drop p records)) ≡ behind (keys ++ row.key ∷ []) (rows ++ row.numbers ∷ []) (front_said count (n + 1) (drop (p + 1) records))
unfolding front_said
record_more records count n p fields keys rows row cut is = rw (cut, is) (behind_joined keys rows row (front_said count (n + 1) (drop (p + 1) records)))

pub record_bad : (records : Records) (count n p : ℕ) (fields : List (List ℕ)) (keys : List ℤ) (rows : List (List Value)) (trouble : TableRefusal) → drop p records ≡ fields ∷ drop (p + 1) records → record_said count n fields ≡ Err trouble
    → behind keys rows (front_said count n (drop p records)) ≡ record { keys = keys; rows = rows; trouble = Some trouble }
unfolding front_said
record_bad records count n p fields keys rows trouble cut is = rw (cut, is) (ended keys rows (Some trouble))
  where
    ended : (keys : List ℤ) (rows : List (List Value)) (t : Option TableRefusal) → behind keys rows (record { keys = []; rows = []; trouble = t }) ≡ record { keys = keys; rows = rows; trouble = t }
    ended keys rows t = let ks = append-nil keys in let rs = append-nil rows in λ i. record { keys = ks i; rows = rs i; trouble = t }

pub record_end : (records : Records) (count n p : ℕ) (keys : List ℤ) (rows : List (List Value)) → length records ≤ p → behind keys rows (front_said count n (drop p records)) ≡ record { keys = keys; rows = rows; trouble = None }
unfolding front_said
record_end records count n p keys rows h =
    let none = drop_all records p h in
    let ks = append-nil keys in
    let rs = append-nil rows in
    rw none (λ i. record { keys = ks i; rows = rs i; trouble = None })
