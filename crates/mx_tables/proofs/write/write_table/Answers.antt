use Rattle.std.proofs.Common.{◌≡◌, ◌≤◌, ◌⊎◌, inl, inr, length, map, rules, subst, sym, IfOk}
use Rattle.csv.specs.Records.{fields_of}
use Rattle.mx_tables.specs.Records.{Records, text_of}
use Rattle.mx_tables.specs.Writing.{table_records}
use Rattle.mx_tables.proofs.Ends.{all_records}
use Rattle.mx_tables.proofs.write.write_table.Goals as goal
use Rattle.mx_tables.proofs.write.write_table.Goals.{else-loop-place-test, then-loop-place-test+in_default}

pub returns : goal.returns
returns c =
    let past : (length c.args.table.now.rows ≤ c.loop-place.place) ⊎ (length c.args.table.now.keys ≤ c.loop-place.place) =
    elim c.loop-place-test.branch [
      | else-loop-place-test w ↦ inl (search rules)
      | then-loop-place-test+in_default w ↦ inr (search rules)
    ] in
    let e : table_records c.args.table.now ≡ map fields_of c.loop-place.list.items = all_records c.args.table.now (map fields_of c.loop-place.list.items) c.loop-place.place c.loop-place.invariant past in
    subst (λ (r : Records). IfOk c.write_records.result (λ text. text.items ≡ text_of r)) (sym e) c.write_records.ensures
