use Rattle.std.proofs.Common.{◌<◌, ◌≤◌, ◌+◌, ◌∙◌, ◌++◌, length, drop, sym, ap, arith}
use Rattle.csv.specs.Records.{fields_of}
use Rattle.csv.proofs.RecordFacts.{field-there}
use Rattle.mx_tables.specs.Reading.{result_map, numbers_said}
use Rattle.mx_tables.proofs.Steps.{number_more, number_bad, number_end}
use Rattle.mx_tables.proofs.read.read_numbers.Goals as goal

pub unreachable-requires : goal.unreachable-requires
unreachable-requires c =
    let lt : c.loop-column.column < length (fields_of c.args.fields.now) = omega (arith, c.len-column-end.ensures, c.loop-column-test.true) in
    field-there (fields_of c.args.fields.now) c.loop-column.column lt (sym (rw c.in_default.is at c.get.ensures.value))

pub returns-in_default-number_of-clause-said : goal.returns-in_default-number_of-clause-said
returns-in_default-number_of-clause-said c =
    let cut = number_bad (fields_of c.args.fields.now) c.loop-column.column c.in-Some.field.now (sym c.in-Some.ensures.value) (sym c.number_of.ensures ∙ c.in_default-number_of.is) in
    sym (c.loop-column.invariant ∙ ap (result_map (λ later. c.loop-column.numbers ++ later)) cut)

pub loop-column-preserved : goal.loop-column-preserved
loop-column-preserved c =
    let more = number_more (fields_of c.args.fields.now) c.loop-column.column c.in-Some.field.now c.loop-column.numbers c.in-Some-number_of.number (sym c.in-Some.ensures.value) (sym c.number_of.ensures ∙ c.in-Some-number_of.is) in
    c.loop-column.invariant ∙ more
    ∙ ap (λ done. result_map (λ later. done ++ later) (numbers_said (c.loop-column.column + 1) (drop (c.loop-column.column + 1) (fields_of c.args.fields.now)))) (sym c.in_ok-push.ensures.ok)

pub returns-clause-said : goal.returns-clause-said
returns-clause-said c =
    let past : length (fields_of c.args.fields.now) ≤ c.loop-column.column = omega (arith, c.len-column-end.ensures, c.loop-column-test.false) in
    sym (c.loop-column.invariant ∙ number_end (fields_of c.args.fields.now) c.loop-column.column c.loop-column.numbers past)
