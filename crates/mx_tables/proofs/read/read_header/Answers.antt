use Rattle.std.proofs.Common.{◌≡◌, ◌<◌, ◌∙◌, ◌++◌, ◌∷◌, [], ℕ, Option, Some, None, Result, Ok, Err, length, true, refl, sym, ap, inr, arith, rules}
use Rattle.std.specs.Prelude.{MatchOption, IsOkUnless, IsErrOf}
use Rattle.std.specs.Result.{is_ok}
use Rattle.csv.specs.Records.{fields_of}
use Rattle.csv.proofs.RecordFacts.{field-there}
use Rattle.mx_value.specs.Label.{first_unprintable}
use Rattle.mx_value.specs.declared.label.LabelRefusal.{LabelRefusal}
use Rattle.mx_value.specs.declared.label.LabelRefusal.TheVariants.{NotPrintable, NoMemory}
use Rattle.mx_tables.proofs.Steps.{name_bad, name_more}
use Rattle.mx_tables.proofs.read.read_header.Goals as goal

-- where a label was made no byte is unprintable
no_place : {A : Type 0} (o : Option ℕ) (r : Result A LabelRefusal) (a : A) → MatchOption o (IsOkUnless r NoMemory) (λ place. IsErrOf r (NotPrintable place)) → r ≡ Ok a → o ≡ None
no_place None r a h e = refl
no_place (Some p) r a h e = let bad = sym h ∙ e in cc (bad)

at_place : {A : Type 0} (o : Option ℕ) (r : Result A LabelRefusal) (i : ℕ) → MatchOption o (IsOkUnless r NoMemory) (λ place. IsErrOf r (NotPrintable place)) → r ≡ Err (NotPrintable i) → o ≡ Some i
at_place None r i h e = let bad = rw e at h in cc (bad)
at_place (Some p) r i h e = let same = sym h ∙ e in cc (same)

pub unreachable-requires : goal.unreachable-requires
unreachable-requires c =
    let lt : c.loop-place.place < length (fields_of c.args.header.now) = omega (arith, c.len-place-end.ensures, c.loop-place-test.true) in
    field-there (fields_of c.args.header.now) c.loop-place.place lt (sym (rw c.in_default.is at c.get.ensures.value))

pub returns-in-Err-NotPrintable-clause-err : goal.returns-in-Err-NotPrintable-clause-err
returns-in-Err-NotPrintable-clause-err c =
    let lt : c.loop-place.place < length (fields_of c.args.header.now) = omega (arith, c.len-place-end.ensures, c.loop-place-test.true) in
    let is = c.in-Err-NotPrintable.is ∙ ap Err c.in-Err-NotPrintable.field-0-is in
    inr (refl, name_bad (fields_of c.args.header.now) c.loop-place.place c.in-Some.field.now c.in-Err-NotPrintable.field-0-0 lt (sym c.in-Some.ensures.value) (at_place (first_unprintable c.in-Some.field.now) c.new.result c.in-Err-NotPrintable.field-0-0 c.new.ensures.exact is))

pub loop-place-preserved : goal.loop-place-preserved
loop-place-preserved c =
    let lt : c.loop-place.place < length (fields_of c.args.header.now) = omega (arith, c.len-place-end.ensures, c.loop-place-test.true) in
    let good : is_ok c.push.result ≡ true = search rules in
    let items = rw good at c.push.ensures.items in
    let s = name_more (fields_of c.args.header.now) c.loop-place.place c.in-Some.field.now c.loop-place.names.items lt (sym c.in-Some.ensures.value) (no_place (first_unprintable c.in-Some.field.now) c.new.result c.in-Ok.name c.new.ensures.exact c.in-Ok.is) c.loop-place.invariant in
    (items ∙ ap (λ n. c.loop-place.names.items ++ n ∷ []) c.in-Ok.ensures.ok ∙ s.0, s.1)
