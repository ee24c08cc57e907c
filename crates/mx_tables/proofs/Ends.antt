-- At the end of the keys or of the rows no record is left.
use Rattle.std.proofs.Common.{◌≡◌, ◌∙◌, ℕ, ℤ, zero, suc, ◌≤◌, List, [], ◌∷◌, ◌++◌, length, drop, refl, ap, append-nil, inl, inr, ◌⊎◌, arith}
use Rattle.mx_edit.specs.Rows.{TableRows}
use Rattle.mx_tables.specs.Records.{Records}
use Rattle.mx_tables.specs.Writing.{row_records, table_records}

none_left : {A : Type 0} (xs : List A) (p : ℕ) → length xs ≤ p → drop p xs ≡ []
none_left [] zero h = refl
none_left [] (suc p) h = refl
none_left (x ∷ xs) zero h = absurd (omega arith)
none_left (x ∷ xs) (suc p) h = none_left xs p (omega arith)

no_rows : (keys : List ℤ) → row_records keys [] ≡ []
no_rows [] = refl
no_rows (key ∷ keys) = refl

pub all_records : (t : TableRows) (done : Records) (p : ℕ) → t.columns ∷ row_records t.keys t.rows ≡ done ++ row_records (drop p t.keys) (drop p t.rows) → (length t.rows ≤ p) ⊎ (length t.keys ≤ p) → table_records t ≡ done
all_records t done p e (inl h) = let none = none_left t.rows p h in e ∙ ap (λ r. done ++ row_records (drop p t.keys) r) none ∙ ap (λ r. done ++ r) (no_rows (drop p t.keys)) ∙ append-nil done
all_records t done p e (inr h) = let none = none_left t.keys p h in e ∙ ap (λ k. done ++ row_records k (drop p t.rows)) none ∙ append-nil done
