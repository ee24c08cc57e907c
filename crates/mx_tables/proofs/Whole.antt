-- The records of a text as a function of it, and what is written reads back.
use Rattle.std.proofs.Common.{◌≡◌, ◌≢◌, ◌∙◌, ℕ, zero, suc, ◌<◌, ◌≤◌, false, List, [], ◌∷◌, ◌++◌, length, Some, None, refl, sym, ap, arith, inl, inr, append_assoc, append-nil}
use Rattle.std.proofs.lemmas.Bool.{cases_Bool}
use Rattle.std.proofs.Common.{◌==◌}
use Rattle.std.specs.List.{list_any}
use Rattle.csv.specs.Machine.{Read, next_record, step, is_end, fields_after, field_after, ends_at_end}
use Rattle.csv.specs.Reading.{AreRecords, Reached, records_from, default_config, strip_bom}
use Rattle.csv.specs.Writing.{default_writer, row_text, read_back, needs_byte}
use Rattle.csv.specs.declared.parser.Config.{Config}
use Rattle.csv.specs.declared.parser.State.{State}
use Rattle.csv.specs.declared.parser.State.TheVariants as st
use Rattle.csv.proofs.RoundTrip.{read-write}
use Rattle.mx_tables.specs.Records.{Records, records_of, text_of, HaveFields, AreWhole}

pub some_same : {A : Type 0} (a b : A) → Some a ≡ Some b → a ≡ b
some_same a b e = cc e

-- a record that is read leaves no more than there was
left-le : (cfg : Config) (s : State) (fields : List (List ℕ)) (field : List ℕ) (xs : List ℕ) (p : Read)
    → next_record cfg s fields field xs ≡ Some p → length p.2 ≤ length xs
unfolding next_record
left-le cfg s fields field [] p e = elim (cases_Bool (ends_at_end s)) [
  | inl t ↦ let same = some_same _ p (rw t at e) in omega (arith, ap (λ (q : Read). length q.2) same)
  | inr f ↦ let bad = rw f at e in cc (bad)
]
left-le cfg s fields field (c ∷ rest) p e = elim (cases_Bool (is_end (step cfg s c).1)) [
  | inl t ↦ let same = some_same _ p (rw t at e) in omega (arith, ap (λ (q : Read). length q.2) same)
  | inr f ↦ let n = left-le cfg (step cfg s c).0 (fields_after (step cfg s c).1 fields field) (field_after (step cfg s c).1 c field) rest p (rw f at e) in omega (arith, n)
]

-- and takes a byte at least, where there is one
takes-byte : (cfg : Config) (s : State) (fields : List (List ℕ)) (field : List ℕ) (c : ℕ) (rest : List ℕ) (p : Read)
    → next_record cfg s fields field (c ∷ rest) ≡ Some p → length p.2 ≤ length rest
unfolding next_record
takes-byte cfg s fields field c rest p e = elim (cases_Bool (is_end (step cfg s c).1)) [
  | inl t ↦ let same = some_same _ p (rw t at e) in omega (arith, ap (λ (q : Read). length q.2) same)
  | inr f ↦ left-le cfg (step cfg s c).0 (fields_after (step cfg s c).1 fields field) (field_after (step cfg s c).1 c field) rest p (rw f at e)
]

-- from the end of a text nothing is read from the start of a record
pub ends-none : (cfg : Config) (n : ℕ) → records_from cfg n st.StartRecord [] ≡ []
unfolding records_from next_record
ends-none cfg zero = refl
ends-none cfg (suc n) = refl

-- no record follows the last one that the end of a text ends
last-one : (cfg : Config) (row : List (List ℕ)) (rows : Records) (m : ℕ) (s s2 : State) (ys : List ℕ) (p : Read) → next_record cfg s [] [] [] ≡ Some p → row ≡ p.0
    → Reached cfg p.1 p.2 rows s2 ys → p.0 ∷ records_from cfg m p.1 p.2 ≡ row ∷ rows
unfolding next_record Reached
last-one cfg row rows m s s2 ys p e is more = elim (cases_Bool (ends_at_end s)) [
  | inl t ↦
      let same = some_same _ p (rw t at e) in
      let state : p.1 ≡ st.StartRecord = sym (ap (λ (q : Read). q.1) same) in
      let left : p.2 ≡ [] = sym (ap (λ (q : Read). q.2) same) in
      rw (state, left, ends-none cfg m) (only rows (rw (state, left) at more))
  | inr f ↦ let bad = rw f at e in cc (bad)
]
  where
    only : (rows : Records) → Reached cfg st.StartRecord [] rows s2 ys → p.0 ∷ [] ≡ row ∷ rows
    only [] more = ap (λ (r : List (List ℕ)). r ∷ []) (sym is)
    only (r ∷ rs) more = let bad = more.1 in cc (bad)

-- enough turns give all the records
pub all-turns : (cfg : Config) (rows : Records) (n : ℕ) (s s2 : State) (xs ys : List ℕ) → Reached cfg s xs rows s2 ys → next_record cfg s2 [] [] ys ≡ None
    → length xs < n → records_from cfg n s xs ≡ rows
unfolding records_from Reached
all-turns cfg rows zero s s2 xs ys r none enough = absurd (omega arith)
all-turns cfg [] (suc m) s s2 xs ys r none enough =
    let e : next_record cfg s [] [] xs ≡ None = rw (r.0, r.1) none in rw e refl
all-turns cfg (row ∷ rows) (suc m) s s2 [] ys r none enough = rw r.1 (last-one cfg row rows m s s2 ys r.0 r.1 r.2 r.3)
all-turns cfg (row ∷ rows) (suc m) s s2 (c ∷ rest) ys r none enough =
    let less = takes-byte cfg s [] [] c rest r.0 r.1 in
    let later = all-turns cfg rows m r.0.1 s2 r.0.2 ys r.3 none (omega (arith, less, enough)) in
    rw r.1 (λ i. sym r.2 i ∷ later i)

pub records_of-are : (text : List ℕ) (rows : Records) → AreRecords default_config st.StartRecord (strip_bom text) rows → records_of text ≡ rows
records_of-are text rows a = all-turns default_config rows _ _ a.0 _ a.1 a.2 a.3 (omega arith)

-- what is written is read as it was
written : (rows : Records) → HaveFields rows → Reached default_config st.StartRecord (text_of rows) rows st.StartRecord []
unfolding Reached
written [] h = (refl, refl)
written (row ∷ rows) h = ((read_back row, st.StartRecord, text_of rows), read-write row (text_of rows), same row h.0, written rows h.1)
  where
    same : (row : List (List ℕ)) → row ≢ [] → row ≡ read_back row
    same [] n = absurd (n refl)
    same (x ∷ rest) n = refl

pub reads_back : (rows : Records) → AreWhole rows → records_of (text_of rows) ≡ rows
unfolding next_record
reads_back rows w = records_of-are (text_of rows) rows (rw w.no_mark (st.StartRecord, [], written rows w.fields, refl))

-- one more row
pub text_of-push : (rows : Records) (row : List (List ℕ)) → text_of (rows ++ row ∷ []) ≡ text_of rows ++ row_text default_writer row
text_of-push [] row = append-nil _
text_of-push (r ∷ rows) row = ap (λ (t : List ℕ). row_text default_writer r ++ t) (text_of-push rows row) ∙ sym (append_assoc (row_text default_writer r) (text_of rows) (row_text default_writer row))

-- a text that begins with another byte has no mark
strip-other : (a : ℕ) (xs : List ℕ) → (a == 0xEF) ≡ false → strip_bom (a ∷ xs) ≡ a ∷ xs
unfolding strip_bom
strip-other a [] n = refl
strip-other a (b ∷ []) n = refl
strip-other a (b ∷ c ∷ rest) n = rw n refl

-- rows whose first field begins with another byte are whole
pub unmarked : (b : ℕ) (field : List ℕ) (row : List (List ℕ)) (rows : Records) → (b == 0xEF) ≡ false → strip_bom (text_of (((b ∷ field) ∷ row) ∷ rows)) ≡ text_of (((b ∷ field) ∷ row) ∷ rows)
unmarked b field row rows n = elim (cases_Bool (list_any (needs_byte default_writer) (b ∷ field))) [
  | inl needs ↦ rw needs (strip-other 34 _ refl)
  | inr plain ↦ rw plain (strip-other b _ n)
]
