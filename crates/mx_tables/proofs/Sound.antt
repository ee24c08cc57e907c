-- What a table's own test says of the rows in front, and the first trouble behind them, is what the records say.
use Rattle.std.proofs.Common.{◌≡◌, ℕ, ℤ, ◌+◌, ◌-◌, ◌≤◌, Bool, true, false, cond, ◌==◌, nat_lt, nat_le, List, [], ◌∷◌, ◌++◌, length, drop, Option, Some, None, Result, Ok, Err, refl, sym, ap, subst, ◌∙◌, inl, inr, arith, length-drop, is_some, if◌then◌else◌}
use Rattle.std.specs.Prelude.{option_and_then}
use Rattle.std.specs.List.{list_all}
use Rattle.std.proofs.lemmas.Bool.{cases_Bool, and_parts, eqb-true, leb-true}
use Rattle.std.proofs.lemmas.Bool.Decides.{nat_tests}
use Rattle.mx_value.specs.declared.value.Value.{Value}
use Rattle.mx_value.specs.declared.value.Value.TheVariants as made
use Rattle.mx_edit.specs.Rows.{TableRows}
use Rattle.mx_edit.specs.Table.{is_number, is_header, are_columns, first_other, place_of_key, key_trouble, or_else, row_trouble, rows_trouble, table_trouble, Answers as Tried}
use Rattle.mx_edit.specs.declared.table.TableRefusal.{TableRefusal}
use Rattle.mx_edit.specs.declared.table.TableRefusal.TheVariants.{BadRow}
use Rattle.mx_tables.specs.Numbers.{number_of, size_of, positive, negative}
use Rattle.mx_tables.specs.declared.number.Size.{Size}
use Rattle.mx_tables.specs.declared.number.Size.TheVariants.{Whole, Decimal}
use Rattle.mx_tables.specs.Records.{Records}
use Rattle.mx_tables.specs.Reading.{result_map, key_field, number_then, numbers_said, RowSaid, row_said, record_said, RowsSaid, with_row, rows_then, rows_said, body_said, Answers}
use Rattle.mx_tables.specs.Fronts.{FrontSaid, front_then, front_said}
use Rattle.mx_tables.proofs.Steps.{none_found}

-- ---- what a field says is a number

chosen : (b : Bool) (x v : Value) → is_number x ≡ true → cond b (Some x) None ≡ Some v → is_number v ≡ true
chosen true x v h e = let same : x ≡ v = cc e in subst (λ y. is_number y ≡ true) same h
chosen false x v h e = cc e

positive_is : (size : Size) (v : Value) → positive size ≡ Some v → is_number v ≡ true
unfolding positive is_number
positive_is (Whole n) v e = chosen _ (made.Int _) v refl e
positive_is (Decimal n) v e = chosen _ (made.Fix _) v refl e

negative_is : (size : Size) (v : Value) → negative size ≡ Some v → is_number v ≡ true
unfolding negative is_number
negative_is (Whole n) v e = chosen _ (made.Int _) v refl e
negative_is (Decimal n) v e = chosen _ (made.Fix _) v refl e

then_is : (f : Size → Option Value) → ((size : Size) (v : Value) → f size ≡ Some v → is_number v ≡ true) → (size : Option Size) (v : Value) → option_and_then f size ≡ Some v → is_number v ≡ true
then_is f h None v e = cc e
then_is f h (Some size) v e = h size v e

either_is : (b : Bool) (x y : Option Size) (v : Value) → cond b (option_and_then negative x) (option_and_then positive y) ≡ Some v → is_number v ≡ true
either_is true x y v e = then_is negative negative_is x v e
either_is false x y v e = then_is positive positive_is y v e

number_is : (field : List ℕ) (v : Value) → number_of field ≡ Some v → is_number v ≡ true
unfolding number_of
number_is [] v e = cc e
number_is (b ∷ bs) v e = either_is (b == 45) (size_of bs) (size_of (b ∷ bs)) v e

-- ---- the numbers of a record

abbrev AreNumbers : List (List ℕ) → List Value → Type 0
AreNumbers fields numbers = (length numbers ≡ length fields) × (list_all is_number numbers ≡ true)

more_numbers : (column : ℕ) (field : List ℕ) (fields : List (List ℕ)) (numbers : List Value) (v : Option Value) (rest : Result (List Value) ℕ) → number_of field ≡ v
    → ((ws : List Value) → rest ≡ Ok ws → AreNumbers fields ws) → number_then column v rest ≡ Ok numbers → AreNumbers (field ∷ fields) numbers
more_numbers column field fields numbers None rest is h e = cc e
more_numbers column field fields numbers (Some v) (Err c) is h e = cc e
more_numbers column field fields numbers (Some v) (Ok ws) is h e =
    let p = h ws refl in
    let n = number_is field v is in
    let same : v ∷ ws ≡ numbers = cc e in
    subst (AreNumbers (field ∷ fields)) same (omega (arith, p.0), rw (n, p.1) refl)

numbers_sound : (column : ℕ) (fields : List (List ℕ)) (numbers : List Value) → numbers_said column fields ≡ Ok numbers → AreNumbers fields numbers
unfolding numbers_said
numbers_sound column [] numbers e = let same : [] ≡ numbers = cc e in subst (AreNumbers []) same (refl, refl)
numbers_sound column (field ∷ fields) numbers e =
    more_numbers column field fields numbers (number_of field) (numbers_said (column + 1) fields) refl (λ ws is. numbers_sound (column + 1) fields ws is) e

row_parts : (n : ℕ) (key : Option ℤ) (said : Result (List Value) ℕ) (row : RowSaid) → row_said n key said ≡ Ok row → said ≡ Ok row.numbers
row_parts n key (Err column) row e = cc e
row_parts n None (Ok numbers) row e = cc e
row_parts n (Some key) (Ok numbers) row e =
    let same : record { key = key; numbers = numbers } ≡ row = cc e in
    ap (λ (r : RowSaid). Ok r.numbers) same

abbrev IsSound : ℕ → RowSaid → Type 0
IsSound width row = (length row.numbers ≡ width) × (first_other row.numbers ≡ None)

record_sound : (count width n : ℕ) (fields : List (List ℕ)) (row : RowSaid) → count ≡ width + 1 → record_said count n fields ≡ Ok row → IsSound width row
unfolding record_said
record_sound count width n fields row is e = elim (cases_Bool (length fields == count)) [
  | inl t ↦
      let whole = rw t at e in
      let s = numbers_sound 1 (drop 1 fields) row.numbers (row_parts n (key_field fields) (numbers_said 1 (drop 1 fields)) row whole) in
      (omega (arith, is, eqb-true (length fields) count t, s.0, length-drop 1 fields), none_found is_number row.numbers s.1)
  | inr f ↦ let bad = rw f at e in cc (bad)
]

row_clean : (width n : ℕ) (earlier : List ℤ) (row : RowSaid) → IsSound width row → row_trouble width n earlier row.key row.numbers ≡ key_trouble n (place_of_key earlier row.key)
unfolding row_trouble
row_clean width n earlier row s =
    let t : (length row.numbers == width) ≡ true = grind (arith, nat_tests, s.0) in
    let none = s.1 in
    rw (t, none) refl

-- ---- all records

abbrev pub ended : Option TableRefusal → FrontSaid → Result RowsSaid TableRefusal
ended (Some trouble) front = Err trouble
ended None front = Ok (record { keys = front.keys; rows = front.rows })

abbrev pub combined : Option TableRefusal → FrontSaid → Result RowsSaid TableRefusal
combined (Some trouble) front = Err trouble
combined None front = ended front.trouble front

moved_end : (row : RowSaid) (rest : FrontSaid) (trouble : Option TableRefusal) → result_map (with_row row) (ended trouble rest) ≡ ended trouble (front_then (Ok row) rest)
moved_end row rest None = refl
moved_end row rest (Some t) = refl

moved : (row : RowSaid) (rest : FrontSaid) (trouble : Option TableRefusal) → result_map (with_row row) (combined trouble rest) ≡ combined trouble (front_then (Ok row) rest)
moved row rest None = moved_end row rest rest.trouble
moved row rest (Some t) = refl

keyed : (n : ℕ) (row : RowSaid) (later : Result RowsSaid TableRefusal) (rest : FrontSaid) (trouble : Option TableRefusal) (place : Option ℕ) → later ≡ combined trouble rest
    → (if is_some place then Err (BadRow n) else result_map (with_row row) later) ≡ combined (or_else (key_trouble n place) trouble) (front_then (Ok row) rest)
keyed n row later rest trouble None e = ap (result_map (with_row row)) e ∙ moved row rest trouble
keyed n row later rest trouble (Some place) e = refl

front_more : (fields : List (List ℕ)) (count width n : ℕ) (earlier : List ℤ) (rest : FrontSaid) (later : RowSaid → Result RowsSaid TableRefusal) (said : Result RowSaid TableRefusal) → count ≡ width + 1 → record_said count n fields ≡ said
    → ((row : RowSaid) → later row ≡ combined (rows_trouble width (n + 1) (earlier ++ row.key ∷ []) rest.keys rest.rows) rest)
    → rows_then n earlier said later ≡ combined (rows_trouble width n earlier (front_then said rest).keys (front_then said rest).rows) (front_then said rest)
unfolding rows_trouble
front_more fields count width n earlier rest later (Err t) is e h = refl
front_more fields count width n earlier rest later (Ok row) is e h =
    let clean = row_clean width n earlier row (record_sound count width n fields row is e) in
    rw clean (keyed n row (later row) rest (rows_trouble width (n + 1) (earlier ++ row.key ∷ []) rest.keys rest.rows) (place_of_key earlier row.key) (h row))

pub front_combined : (records : Records) (count width n : ℕ) (earlier : List ℤ) → count ≡ width + 1
    → rows_said count n earlier records ≡ combined (rows_trouble width n earlier (front_said count n records).keys (front_said count n records).rows) (front_said count n records)
unfolding rows_said front_said rows_trouble
front_combined [] count width n earlier is = refl
front_combined (fields ∷ more) count width n earlier is =
    front_more fields count width n earlier (front_said count (n + 1) more) (λ row. rows_said count (n + 1) (earlier ++ row.key ∷ []) more) (record_said count n fields) is refl
    (λ row. front_combined more count width (n + 1) (earlier ++ row.key ∷ []) is)

front_size : (said : Result RowSaid TableRefusal) (rest : FrontSaid) (n : ℕ) → length rest.keys ≤ n → length rest.keys ≡ length rest.rows
    → (length (front_then said rest).keys ≤ n + 1) × (length (front_then said rest).keys ≡ length (front_then said rest).rows)
front_size (Err t) rest n few even = (omega arith, refl)
front_size (Ok row) rest n few even = (omega (arith, few), omega (arith, even))

pub front_sizes : (records : Records) (count n : ℕ) → (length (front_said count n records).keys ≤ length records) × (length (front_said count n records).keys ≡ length (front_said count n records).rows)
unfolding front_said
front_sizes [] count n = (omega arith, refl)
front_sizes (fields ∷ more) count n =
    let later = front_sizes more count (n + 1) in
    let s = front_size (record_said count n fields) (front_said count (n + 1) more) (length more) later.0 later.1 in
    (omega (arith, s.0), s.1)

-- ---- the table

abbrev pub made_of : List (List ℕ) → FrontSaid → TableRows
made_of header front = record { columns = header; keys = front.keys; rows = front.rows }

abbrev pub answered : Option TableRefusal → Option TableRefusal → TableRows → Result TableRows TableRefusal
answered (Some trouble) later table = Err trouble
answered None (Some trouble) table = Err trouble
answered None None table = Ok table

whole_end : (header : List (List ℕ)) (front : FrontSaid) (later : Option TableRefusal) → result_map (λ said. record { columns = header; keys = said.keys; rows = said.rows }) (ended later front) ≡ answered None later (made_of header front)
whole_end header front None = refl
whole_end header front (Some t) = refl

whole : (header : List (List ℕ)) (front : FrontSaid) (trouble : Option TableRefusal) → result_map (λ said. record { columns = header; keys = said.keys; rows = said.rows }) (combined trouble front) ≡ answered trouble front.trouble (made_of header front)
whole header front None = whole_end header front front.trouble
whole header front (Some t) = refl

header_has : (header : List (List ℕ)) → is_header header ≡ true → 2 ≤ length header
unfolding is_header
header_has header h = leb-true 2 (length header) (and_parts (nat_le 2 (length header)) (are_columns [] header) h).0

pub body_answered : (header : List (List ℕ)) (more : Records) → length header ≤ 120 → length more ≤ 10000
    → body_said header more ≡ answered (table_trouble (made_of header (front_said (length header) 1 more))) (front_said (length header) 1 more).trouble (made_of header (front_said (length header) 1 more))
unfolding table_trouble
body_answered header more narrow few =
    let front = front_said (length header) 1 more in
    let keys = front_sizes more (length header) 1 in
    let wide : nat_lt 120 (length header) ≡ false = grind (arith, nat_tests) in
    let long : nat_lt 10000 (length front.keys) ≡ false = grind (arith, nat_tests, keys.0) in
    elim (cases_Bool (is_header header)) [
      | inl t ↦
          let parts : length header ≡ length header - 1 + 1 = omega (arith, header_has header t) in
          rw (wide, long, t) (ap (result_map (λ said. record { columns = header; keys = said.keys; rows = said.rows })) (front_combined more (length header) (length header - 1) 1 [] parts) ∙ whole header front (rows_trouble (length header - 1) 1 [] front.keys front.rows))
      | inr f ↦ rw (wide, long, f) refl
    ]

-- ---- the answer

abbrev pub made_from : List (List ℕ) → Records → TableRows
made_from header more = made_of header (front_said (length header) 1 more)

refused_says : (trouble later : Option TableRefusal) (t : TableRows) (r : Result TableRows TableRefusal) (e : TableRefusal) → Tried r trouble → r ≡ Err e → Answers (Err e) (answered trouble later t)
refused_says (Some x) later t r e h is = inl (sym is ∙ h)
refused_says None later t r e h is = inr (ap Err (rw is at h))

kept_says : (trouble : Option TableRefusal) (t : TableRows) (r : Result TableRows TableRefusal) → Tried r trouble → r ≡ Ok t → trouble ≡ None
kept_says (Some x) t r h is = let bad = sym is ∙ h in cc (bad)
kept_says None t r h is = refl

-- the rows in front make no table
pub refused : (header : List (List ℕ)) (more : Records) (t : TableRows) (r : Result TableRows TableRefusal) (e : TableRefusal) → length header ≤ 120 → length more ≤ 10000 → t ≡ made_from header more
    → Tried r (table_trouble t) → r ≡ Err e → Answers (Err e) (body_said header more)
refused header more t r e narrow few same h is =
    subst (λ said. Answers (Err e) said) (sym (body_answered header more narrow few))
    (refused_says (table_trouble (made_from header more)) (front_said (length header) 1 more).trouble (made_from header more) r e (subst (λ x. Tried r (table_trouble x)) same h) is)

-- they make one, and what stands behind them is the answer
pub kept : (header : List (List ℕ)) (more : Records) (t made : TableRows) (r : Result TableRows TableRefusal) (later : Option TableRefusal) → length header ≤ 120 → length more ≤ 10000 → t ≡ made_from header more
    → Tried r (table_trouble t) → r ≡ Ok made → later ≡ (front_said (length header) 1 more).trouble → body_said header more ≡ answered None later (made_from header more)
kept header more t made r later narrow few same h is trouble =
    let none = kept_says (table_trouble t) made r h is in
    body_answered header more narrow few
    ∙ ap (λ o. answered o (front_said (length header) 1 more).trouble (made_from header more)) (ap table_trouble (sym same) ∙ none)
    ∙ ap (λ o. answered None o (made_from header more)) (sym trouble)
