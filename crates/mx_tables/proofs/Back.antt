-- The text of a table that a program holds says that table.
use Rattle.std.proofs.Common.{◌≡◌, ℕ, ℤ, ◌+◌, ◌-◌, ◌≤◌, Bool, true, false, ◌||◌, ◌==◌, nat_lt, nat_le, List, [], ◌∷◌, ◌++◌, length, map, Option, Some, None, Result, Ok, refl, sym, ap, ◌∙◌, subst, inl, inr, arith}
use Rattle.std.specs.List.{list_all}
use Rattle.std.specs.Fmt.{signed_decimal}
use Rattle.std.proofs.lemmas.List.{length-map}
use Rattle.std.proofs.lemmas.Bool.{cases_Bool, and_parts, eqb-true, leb-true}
use Rattle.std.proofs.lemmas.Bool.Decides.{nat_tests}
use Rattle.csv.specs.Records.{field_at}
use Rattle.mx_value.specs.Label.{is_printable}
use Rattle.mx_value.specs.declared.value.Value.{Value, fold-roll-Value}
use Rattle.mx_value.specs.declared.value.Value.TheVariants as made
use Rattle.mx_value.specs.declared.value.Segment.{Segment}
use Rattle.mx_value.specs.declared.value.CellsAt.{CellsAt}
use Rattle.mx_value.specs.declared.value.Segment.TheOpen.{Value-F}
use Rattle.mx_value.specs.declared.value.Segment.TheViews.{roll-Value, out-Value, roll-out-Value}
use Rattle.mx_print.specs.Values.{value_text, fixed_text}
use Rattle.mx_edit.specs.Rows.{TableRows}
use Rattle.mx_edit.specs.Table.{is_number, is_column, is_header, are_columns, first_other, place_of_key, number_trouble, key_trouble, or_else, row_trouble, rows_trouble, table_trouble}
use Rattle.mx_edit.specs.declared.table.TableRefusal.{TableRefusal}
use Rattle.mx_tables.specs.Numbers.{number_of, int_of}
use Rattle.mx_tables.specs.Records.{Records, HaveFields, AreWhole}
use Rattle.mx_tables.specs.Reading.{key_field, numbers_said, row_said, record_said, rows_said, are_printable, table_said, table_of}
use Rattle.mx_tables.specs.Writing.{row_record, row_records, table_records, table_text}
use Rattle.mx_tables.specs.Held.{IsInt, IsWithin, AreInts, AreWithin, RowsWithin, IsHeld}
use Rattle.mx_tables.proofs.Whole.{reads_back, unmarked}
use Rattle.mx_tables.proofs.Printed.{int_back, fix_back}
use Rattle.mx_tables.proofs.Steps.{all_pass}

-- ---- one number

int_text : (n : ℤ) → value_text (made.Int n) ≡ signed_decimal n
int_text n = ap value_text (sym (made.rolls-Int n)) ∙ fold-roll-Value _ _ _ _ _ _ (Value-F.Int n)

fix_text : (x : ℤ) → value_text (made.Fix x) ≡ fixed_text x
fix_text x = ap value_text (sym (made.rolls-Fix x)) ∙ fold-roll-Value _ _ _ _ _ _ (Value-F.Fix x)

none_is : (v w : Value) → w ≡ v → is_number v ≡ false → is_number w ≡ true → ⊥
none_is v w same none t = let bad = sym none ∙ ap is_number (sym same) ∙ t in cc (bad)

back_at : (l : Value-F Segment Value CellsAt) → is_number (roll-Value l) ≡ true → IsWithin (roll-Value l) → number_of (value_text (roll-Value l)) ≡ Some (roll-Value l)
unfolding is_number
back_at (Value-F.Int n) t h =
    subst (λ v. number_of (value_text v) ≡ Some v) (sym (made.rolls-Int n)) (ap number_of (int_text n) ∙ int_back n (subst IsWithin (made.rolls-Int n) h))
back_at (Value-F.Fix x) t h =
    subst (λ v. number_of (value_text v) ≡ Some v) (sym (made.rolls-Fix x)) (ap number_of (fix_text x) ∙ fix_back x (subst IsWithin (made.rolls-Fix x) h))
back_at Value-F.Nothing t h = absurd (none_is made.Nothing _ made.rolls-Nothing refl t)
back_at (Value-F.Flag b) t h = absurd (none_is (made.Flag b) _ (made.rolls-Flag b) refl t)
back_at (Value-F.Text s) t h = absurd (none_is (made.Text s) _ (made.rolls-Text s) refl t)
back_at (Value-F.Tup items) t h = absurd (none_is (made.Tup items) _ (made.rolls-Tup items) refl t)
back_at (Value-F.Space at) t h = absurd (none_is (made.Space at) _ (made.rolls-Space at) refl t)
back_at (Value-F.Cells at) t h = absurd (none_is (made.Cells at) _ (made.rolls-Cells at) refl t)
back_at (Value-F.Table s) t h = absurd (none_is (made.Table s) _ (made.rolls-Table s) refl t)

number_back : (v : Value) → is_number v ≡ true → IsWithin v → number_of (value_text v) ≡ Some v
number_back v t h =
    let is : roll-Value (out-Value v) ≡ v = roll-out-Value v in
    subst (λ u. number_of (value_text u) ≡ Some u) is (back_at (out-Value v) (ap is_number is ∙ t) (subst IsWithin (sym is) h))

-- ---- one row

numbers_back : (column : ℕ) (numbers : List Value) → list_all is_number numbers ≡ true → AreWithin numbers → numbers_said column (map value_text numbers) ≡ Ok numbers
unfolding numbers_said
numbers_back column [] t h = refl
numbers_back column (v ∷ vs) t h =
    let both = and_parts (is_number v) (list_all is_number vs) t in
    let first = number_back v both.0 h.0 in
    let later = numbers_back (column + 1) vs both.1 h.1 in
    rw (first, later) refl

key_back : (key : ℤ) (fields : List (List ℕ)) → IsInt key → key_field (signed_decimal key ∷ fields) ≡ Some key
unfolding field_at
key_back key fields h = ap int_of (int_back key h)

said_back : (n : ℕ) (key : ℤ) (numbers : List Value) (k : Option ℤ) (said : Result (List Value) ℕ) → k ≡ Some key → said ≡ Ok numbers → row_said n k said ≡ Ok (record { key = key; numbers = numbers })
said_back n key numbers k said there is = rw (there, is) refl

record_back : (width n : ℕ) (key : ℤ) (numbers : List Value) → length numbers ≡ width → list_all is_number numbers ≡ true → IsInt key → AreWithin numbers
    → record_said (width + 1) n (row_record key numbers) ≡ Ok (record { key = key; numbers = numbers })
unfolding record_said
record_back width n key numbers long t i h =
    let many : (length (row_record key numbers) == width + 1) ≡ true = grind (arith, nat_tests, long, length-map numbers value_text) in
    rw many (said_back n key numbers (key_field (row_record key numbers)) (numbers_said 1 (map value_text numbers)) (key_back key (map value_text numbers) i) (numbers_back 1 numbers t h))

-- ---- a row without trouble

record IsClean (width : ℕ) (earlier : List ℤ) (key : ℤ) (row : List Value) : Type 0 where
  long : length row ≡ width
  numbers : list_all is_number row ≡ true
  fresh : place_of_key earlier key ≡ None

neither : (a b : Option TableRefusal) → or_else a b ≡ None → (a ≡ None) × (b ≡ None)
neither None b e = (refl, e)
neither (Some x) b e = cc e

no_number : (n : ℕ) (place : Option ℕ) → number_trouble n place ≡ None → place ≡ None
no_number n None e = refl
no_number n (Some p) e = cc e

no_key : (n : ℕ) (place : Option ℕ) → key_trouble n place ≡ None → place ≡ None
no_key n None e = refl
no_key n (Some p) e = cc e

is_clean : (width n : ℕ) (earlier : List ℤ) (key : ℤ) (row : List Value) → row_trouble width n earlier key row ≡ None → IsClean width earlier key row
unfolding row_trouble
is_clean width n earlier key row e = elim (cases_Bool (length row == width)) [
  | inl t ↦
      let parts = neither (number_trouble n (first_other row)) (key_trouble n (place_of_key earlier key)) (rw t at e) in
      record { long = eqb-true (length row) width t; numbers = all_pass is_number row (no_number n (first_other row) parts.0); fresh = no_key n (place_of_key earlier key) parts.1 }
  | inr f ↦ let bad = rw f at e in cc (bad)
]

-- ---- all rows

rows_back : (keys : List ℤ) (rows : List (List Value)) (width n : ℕ) (earlier : List ℤ) → length keys ≡ length rows → AreInts keys → RowsWithin rows → rows_trouble width n earlier keys rows ≡ None
    → rows_said (width + 1) n earlier (row_records keys rows) ≡ Ok (record { keys = keys; rows = rows })
unfolding rows_said rows_trouble
rows_back [] [] width n earlier even ints within none = refl
rows_back [] (row ∷ rows) width n earlier even ints within none = cc even
rows_back (key ∷ keys) [] width n earlier even ints within none = cc even
rows_back (key ∷ keys) (row ∷ rows) width n earlier even ints within none =
    let parts = neither (row_trouble width n earlier key row) (rows_trouble width (n + 1) (earlier ++ key ∷ []) keys rows) none in
    let clean = is_clean width n earlier key row parts.0 in
    let later = rows_back keys rows width (n + 1) (earlier ++ key ∷ []) (omega (arith, even)) ints.1 within.1 parts.1 in
    let first = record_back width n key row clean.long clean.numbers ints.0 within.0 in
    let fresh = clean.fresh in
    rw first (rw (fresh, later) refl)

-- ---- the table

records_even : (keys : List ℤ) (rows : List (List Value)) → length keys ≡ length rows → length (row_records keys rows) ≡ length keys
records_even [] rows even = refl
records_even (key ∷ keys) [] even = cc even
records_even (key ∷ keys) (row ∷ rows) even = omega (arith, records_even keys rows (omega (arith, even)))

-- what a table without trouble is
record IsSound (t : TableRows) : Type 0 where
  narrow : nat_lt 120 (length t.columns) ≡ false
  few : nat_lt 10000 (length t.keys) ≡ false
  header : is_header t.columns ≡ true
  rows : rows_trouble (length t.columns - 1) 1 [] t.keys t.rows ≡ None

not_either : (a b : Bool) → (a || b) ≡ false → (a ≡ false) × (b ≡ false)
not_either false b e = (refl, e)
not_either true b e = cc e

is_sound : (t : TableRows) → table_trouble t ≡ None → IsSound t
unfolding table_trouble
is_sound t e = elim (cases_Bool (nat_lt 120 (length t.columns) || nat_lt 10000 (length t.keys))) [
  | inl big ↦ let bad = rw big at e in cc (bad)
  | inr fits ↦
      let sizes = not_either (nat_lt 120 (length t.columns)) (nat_lt 10000 (length t.keys)) fits in
      let rest = rw fits at e in
      elim (cases_Bool (is_header t.columns)) [
        | inl h ↦ record { narrow = sizes.0; few = sizes.1; header = h; rows = rw h at rest }
        | inr f ↦ let bad = rw f at rest in cc (bad)
      ]
]

-- ---- its text

fields_there : (keys : List ℤ) (rows : List (List Value)) → HaveFields (row_records keys rows)
fields_there [] rows = tt
fields_there (key ∷ keys) [] = tt
fields_there (key ∷ keys) (row ∷ rows) = ((λ e. cc e), fields_there keys rows)

not_mark : (b : ℕ) → is_printable b ≡ true → (b == 0xEF) ≡ false
not_mark b h = grind (arith, nat_tests)

no_name : (names : List (List ℕ)) → is_header ([] ∷ names) ≡ true → ⊥
unfolding is_header are_columns is_column
no_name names h = let bad = (and_parts (nat_le 2 (length ([] ∷ names))) (are_columns [] ([] ∷ names)) h).1 in cc (bad)

whole_text : (names : List (List ℕ)) (rest : Records) → are_printable names ≡ true → is_header names ≡ true → HaveFields rest → AreWhole (names ∷ rest)
unfolding is_header are_columns is_column
whole_text [] rest printable header there = absurd (cc header)
whole_text ([] ∷ names) rest printable header there = absurd (no_name names header)
whole_text ((b ∷ name) ∷ names) rest printable header there =
    let first = (and_parts (list_all is_printable (b ∷ name)) (are_printable names) printable).0 in
    let byte = (and_parts (is_printable b) (list_all is_printable name) first).0 in
    record { fields = ((λ e. cc e), there); no_mark = unmarked b name names rest (not_mark b byte) }

header_two : (names : List (List ℕ)) → is_header names ≡ true → 2 ≤ length names
unfolding is_header
header_two names h = leb-true 2 (length names) (and_parts (nat_le 2 (length names)) (are_columns [] names) h).0

said_whole : (t : TableRows) → IsHeld t → IsSound t → table_said (table_records t) ≡ Ok t
said_whole t h s =
    let narrow = s.narrow in
    let count = records_even t.keys t.rows h.table.even in
    let few = s.few in
    let names = h.names in
    let header = s.header in
    let width : length t.columns ≡ length t.columns - 1 + 1 = omega (arith, header_two t.columns s.header) in
    let rows = ap (λ c. rows_said c 1 [] (row_records t.keys t.rows)) width ∙ rows_back t.keys t.rows (length t.columns - 1) 1 [] h.table.even h.keys h.rows s.rows in
    rw (narrow, count, few, names, header, rows) refl

pub table_back : (t : TableRows) → IsHeld t → table_of (table_text t) ≡ Ok t
table_back t h =
    let s = is_sound t h.table.sound in
    ap table_said (reads_back (table_records t) (whole_text t.columns (row_records t.keys t.rows) h.names s.header (fields_there t.keys t.rows))) ∙ said_whole t h s
