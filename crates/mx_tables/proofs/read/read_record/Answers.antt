use Rattle.std.proofs.Common.{◌≡◌, ◌≢◌, ◌∙◌, ◌==◌, ℕ, ℤ, List, Option, Some, None, Result, Ok, Err, length, drop, true, false, refl, sym, inr, arith, rules, FitsSigned, to_z-of_z, w64}
use Rattle.std.proofs.lemmas.Bool.Decides.{nat_tests}
use Rattle.csv.specs.Records.{fields_of}
use Rattle.mx_value.specs.declared.value.Value.{Value}
use Rattle.mx_edit.specs.declared.table.TableRefusal.TheVariants.{BadRow, BadNumber}
use Rattle.mx_tables.specs.Reading.{key_field, numbers_said, row_said, record_said}
use Rattle.mx_tables.proofs.read.read_record.Goals as goal

other_count : (count n : ℕ) (fields : List (List ℕ)) → length fields ≢ count → record_said count n fields ≡ Err (BadRow n)
unfolding record_said
other_count count n fields h = let f : (length fields == count) ≡ false = grind (arith, nat_tests) in rw f refl

as_many : (count n : ℕ) (fields : List (List ℕ)) → length fields ≡ count → record_said count n fields ≡ row_said n (key_field fields) (numbers_said 1 (drop 1 fields))
unfolding record_said
as_many count n fields h = let t : (length fields == count) ≡ true = grind (arith, nat_tests, h) in rw t refl

bad_number : (n column : ℕ) (key : Option ℤ) (said : Result (List Value) ℕ) → said ≡ Err column → row_said n key said ≡ Err (BadNumber n column)
bad_number n column key said is = rw is refl

bad_key : (n : ℕ) (numbers : List Value) (key : Option ℤ) (said : Result (List Value) ℕ) → key ≡ None → said ≡ Ok numbers → row_said n key said ≡ Err (BadRow n)
bad_key n numbers key said none is = rw (none, is) refl

good : (n : ℕ) (k : ℤ) (numbers : List Value) (key : Option ℤ) (said : Result (List Value) ℕ) → key ≡ Some k → said ≡ Ok numbers → row_said n key said ≡ Ok (record { key = k; numbers = numbers })
good n k numbers key said there is = rw (there, is) refl

pub returns-then-len-count-clause-err : goal.returns-then-len-count-clause-err
returns-then-len-count-clause-err c =
    inr ((λ e. cc e), other_count c.args.count c.args.number (fields_of c.args.fields.now) (rw c.len.ensures at c.if-len-count.true))

pub returns-in-Err-clause-err : goal.returns-in-Err-clause-err
returns-in-Err-clause-err c =
    let many = as_many c.args.count c.args.number (fields_of c.args.fields.now) (rw c.len.ensures at c.if-len-count.false) in
    inr ((λ e. cc e), many ∙ bad_number c.args.number c.in-Err.column _ _ (sym c.in-Ok.ensures.said ∙ c.in-Err.is))

pub returns-in-Some-clause-row : goal.returns-in-Some-clause-row
returns-in-Some-clause-row c =
    let many = as_many c.args.count c.args.number (fields_of c.args.fields.now) (rw c.len.ensures at c.if-len-count.false) in
    let fits : FitsSigned w64 c.in-Some.key = search rules in
    simp to_z-of_z (many ∙ good c.args.number c.in-Some.key c.in-Ok-said.numbers _ _ (sym c.key_of.ensures ∙ c.in-Some.is) (sym c.in-Ok.ensures.said ∙ c.in-Ok-said.is))

pub returns-in-None-clause-err : goal.returns-in-None-clause-err
returns-in-None-clause-err c =
    let many = as_many c.args.count c.args.number (fields_of c.args.fields.now) (rw c.len.ensures at c.if-len-count.false) in
    inr ((λ e. cc e), many ∙ bad_key c.args.number c.in-Ok-said.numbers _ _ (sym c.key_of.ensures ∙ c.in-None.is) (sym c.in-Ok.ensures.said ∙ c.in-Ok-said.is))
