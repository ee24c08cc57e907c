-- The entries of a table without a trouble are numbers, and so arguments.
use Rattle.std.proofs.Common.{◌≡◌, ℕ, ◌+◌, ◌-◌, ◌==◌, ◌||◌, Bool, true, false, not, nat_lt, List, [], ◌∷◌, ◌++◌, length, Option, None, Some, ℤ, inl, inr, refl, sym, ap, ◌∙◌, arith}
use Rattle.std.specs.List.{All, list_all, position, prefix_len}
use Rattle.std.proofs.lemmas.Bool.{cases_Bool}
use Rattle.std.proofs.lemmas.Bool.Decides.{nat_tests}
use Rattle.std.proofs.lemmas.List.Elements.{All-head, All-tail}
use Rattle.mx_value.specs.Plain.{is_plain}
use Rattle.mx_value.specs.declared.value.Value.{Value}
use Rattle.mx_value.specs.declared.value.Value.TheVariants as made
use Rattle.mx_value.specs.declared.value.Segment.TheOpen.{Value-F}
use Rattle.mx_value.specs.declared.value.Segment.TheFolds.{fold-roll-Value}
use Rattle.mx_edit.specs.Rows.{TableRows}
use Rattle.mx_edit.specs.Table.{is_number, first_other, number_trouble, key_trouble, place_of_key, or_else, row_trouble, rows_trouble, is_header, table_trouble, IsTable}
use Rattle.mx_edit.specs.declared.table.TableRefusal.{TableRefusal}
use Rattle.mx_model.specs.Records.{Name}
use Rattle.mx_state.specs.Proper.{IsArgument}
use Rattle.mx_limit_laws.specs.Values.{Each}
use Rattle.mx_limit_laws.specs.Replies.{IsSmallTable}
use Rattle.mx_limit_laws.specs.Laws.{TablesAreSmall, TextTablesAreSmall}
use Rattle.mx_limit_laws.proofs.Values.{both, int_within, fix_within, plain_argument}

-- ---- where nothing fails a test, all pass it

short : {A : Type 0} (p : A → Bool) (xs : List A) → list_all p xs ≡ false → nat_lt (prefix_len (λ x. not (not (p x))) xs) (length xs) ≡ true
short p [] h = cc h
short p (x ∷ xs) h = elim (cases_Bool (p x)) [
  | inl t ↦ let later = short p xs (rw t at h) in rw t (grind (arith, nat_tests, later))
  | inr f ↦ let some : nat_lt 0 (length (x ∷ xs)) ≡ true = grind (arith, nat_tests) in rw f some
]

all_pass : {A : Type 0} (p : A → Bool) (xs : List A) → position (λ x. not (p x)) xs ≡ None → list_all p xs ≡ true
all_pass p xs e = elim (cases_Bool (list_all p xs)) [
  | inl t ↦ t
  | inr f ↦ let found = short p xs f in let bad = rw found at e in cc (bad)
]

-- ---- numbers

number_argument : (v : Value) → is_number v ≡ true → IsArgument v
unfolding is_number
number_argument (made.Int n) h = plain_argument (made.Int n) (ap is_plain (sym (made.rolls-Int n)) ∙ fold-roll-Value _ _ _ _ _ _ (Value-F.Int n)) (int_within n)
number_argument (made.Fix x) h = plain_argument (made.Fix x) (ap is_plain (sym (made.rolls-Fix x)) ∙ fold-roll-Value _ _ _ _ _ _ (Value-F.Fix x)) (fix_within x)
number_argument _ h = cc

numbers_arguments : (row : List Value) → list_all is_number row ≡ true → Each IsArgument row
numbers_arguments [] h = tt
numbers_arguments (v ∷ row) h = let p = both (is_number v) (list_all is_number row) h in (number_argument v p.0, numbers_arguments row p.1)

-- ---- a row without a trouble

neither : (a b : Option TableRefusal) → or_else a b ≡ None → (a ≡ None) × (b ≡ None)
neither None b e = (refl, e)
neither (Some x) b e = cc

no_number : (n : ℕ) (place : Option ℕ) → number_trouble n place ≡ None → place ≡ None
no_number n None e = refl
no_number n (Some p) e = cc

row_numbers : (width n : ℕ) (earlier : List ℤ) (key : ℤ) (row : List Value) → row_trouble width n earlier key row ≡ None → list_all is_number row ≡ true
unfolding row_trouble
row_numbers width n earlier key row e =
    elim (cases_Bool (length row == width)) [
      | inl t ↦
          let parts = neither (number_trouble n (first_other row)) (key_trouble n (place_of_key earlier key)) (rw t at e) in
          all_pass is_number row (no_number n (first_other row) parts.0)
      | inr f ↦ let bad = rw f at e in cc (bad)
    ]

rows_arguments : (keys : List ℤ) (rows : List (List Value)) (width n : ℕ) (earlier : List ℤ) → length keys ≡ length rows → rows_trouble width n earlier keys rows ≡ None → Each (λ row. Each IsArgument row) rows
unfolding rows_trouble
rows_arguments keys [] width n earlier even none = tt
rows_arguments [] (row ∷ rows) width n earlier even none = cc
rows_arguments (key ∷ keys) (row ∷ rows) width n earlier even none =
    let parts = neither (row_trouble width n earlier key row) (rows_trouble width (n + 1) (earlier ++ key ∷ []) keys rows) none in
    (numbers_arguments row (row_numbers width n earlier key row parts.0), rows_arguments keys rows width (n + 1) (earlier ++ key ∷ []) (omega (arith, even)) parts.1)

-- ---- the table

no_trouble : (t : TableRows) → table_trouble t ≡ None → rows_trouble (length t.columns - 1) 1 [] t.keys t.rows ≡ None
unfolding table_trouble
no_trouble t e =
    elim (cases_Bool (nat_lt 120 (length t.columns) || nat_lt 10000 (length t.keys))) [
      | inl big ↦ let bad = rw big at e in cc (bad)
      | inr fits ↦
          let rest = rw fits at e in
          elim (cases_Bool (is_header t.columns)) [
            | inl h ↦ rw h at rest
            | inr f ↦ let bad = rw f at rest in cc (bad)
          ]
    ]

pub tables_are_small : TablesAreSmall
tables_are_small t h = rows_arguments t.keys t.rows (length t.columns - 1) 1 [] h.even (no_trouble t h.sound)

-- ---- the tables of a text

all_small : (tables : List (Name × TableRows)) → All (λ (t : Name × TableRows). IsTable t.1) tables → Each (λ (t : Name × TableRows). IsSmallTable t.1) tables
all_small [] h = tt
all_small (t ∷ tables) h =
    let first = All-head (λ (x : Name × TableRows). IsTable x.1) t tables h in
    let rest = All-tail (λ (x : Name × TableRows). IsTable x.1) t tables h in
    (tables_are_small t.1 first, all_small tables rest)

pub text_tables_are_small : TextTablesAreSmall
text_tables_are_small text h = all_small text.tables h
