use Rattle.std.proofs.Common.{◌≡◌, ◌≤◌, ◌∙◌, length, map, Ok, None, Some, sym, ap, inl, arith}
use Rattle.std.proofs.lemmas.List.{length-map}
use Rattle.csv.specs.Records.{fields_of}
use Rattle.mx_edit.specs.Rows.{TableRows}
use Rattle.mx_tables.proofs.Sound.{front_sizes, made_from, refused, kept}
use Rattle.mx_tables.proofs.read.read_rows.Goals as goal

pub new-requires : goal.new-requires
new-requires c =
    let count : c.len.result ≡ length c.args.columns.items = omega (arith, c.len.ensures) in
    let keys = rw count at c.in-Ok.ensures.keys in
    let rows = rw count at c.in-Ok.ensures.rows in
    ap length keys ∙ (front_sizes (map fields_of c.args.records.now) (length c.args.columns.items) 1).1 ∙ sym (ap length rows)

pub returns-in-Err : goal.returns-in-Err
returns-in-Err c =
    let count : c.len.result ≡ length c.args.columns.items = omega (arith, c.len.ensures) in
    let keys = rw count at c.in-Ok.ensures.keys in
    let rows = rw count at c.in-Ok.ensures.rows in
    let few : length (map fields_of c.args.records.now) ≤ 10000 = omega (arith, c.requires.few, length-map c.args.records.now fields_of) in
    let t : TableRows = record { columns = c.args.columns.items; keys = c.in-Ok.front.keys.items; rows = c.in-Ok.front.rows.items } in
    let same : t ≡ made_from c.args.columns.items (map fields_of c.args.records.now) = λ i. record { columns = c.args.columns.items; keys = keys i; rows = rows i } in
    refused c.args.columns.items (map fields_of c.args.records.now) t c.new.result c.in-Err.refusal c.requires.narrow few same c.new.ensures.exact c.in-Err.is

pub returns-in-Some : goal.returns-in-Some
returns-in-Some c =
    let count : c.len.result ≡ length c.args.columns.items = omega (arith, c.len.ensures) in
    let keys = rw count at c.in-Ok.ensures.keys in
    let rows = rw count at c.in-Ok.ensures.rows in
    let trouble = rw count at c.in-Ok.ensures.trouble in
    let few : length (map fields_of c.args.records.now) ≤ 10000 = omega (arith, c.requires.few, length-map c.args.records.now fields_of) in
    let t : TableRows = record { columns = c.args.columns.items; keys = c.in-Ok.front.keys.items; rows = c.in-Ok.front.rows.items } in
    let same : t ≡ made_from c.args.columns.items (map fields_of c.args.records.now) = λ i. record { columns = c.args.columns.items; keys = keys i; rows = rows i } in
    inl (sym (kept c.args.columns.items (map fields_of c.args.records.now) t c.in-Ok-new.table c.new.result (Some c.in-Some.refusal) c.requires.narrow few same c.new.ensures.exact c.in-Ok-new.is (sym c.in-Some.is ∙ trouble)))

pub returns-in-None : goal.returns-in-None
returns-in-None c =
    let count : c.len.result ≡ length c.args.columns.items = omega (arith, c.len.ensures) in
    let keys = rw count at c.in-Ok.ensures.keys in
    let rows = rw count at c.in-Ok.ensures.rows in
    let trouble = rw count at c.in-Ok.ensures.trouble in
    let few : length (map fields_of c.args.records.now) ≤ 10000 = omega (arith, c.requires.few, length-map c.args.records.now fields_of) in
    let t : TableRows = record { columns = c.args.columns.items; keys = c.in-Ok.front.keys.items; rows = c.in-Ok.front.rows.items } in
    let same : t ≡ made_from c.args.columns.items (map fields_of c.args.records.now) = λ i. record { columns = c.args.columns.items; keys = keys i; rows = rows i } in
    inl (ap Ok (c.in-Ok-new.ensures.table ∙ same) ∙ sym (kept c.args.columns.items (map fields_of c.args.records.now) t c.in-Ok-new.table c.new.result None c.requires.narrow few same c.new.ensures.exact c.in-Ok-new.is (sym c.in-None.is ∙ trouble)))
