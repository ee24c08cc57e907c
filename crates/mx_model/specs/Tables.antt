-- The tables of a text.
use Rattle.std.specs.List.{All}
use Rattle.mx_edit.specs.Rows.{TableRows}
use Rattle.mx_edit.specs.Table.{IsTable}
use Rattle.mx_model.specs.Records.{Name, ModelRecord}

-- each has a row for each key, and no trouble
abbrev pub HasTables : ModelRecord → Type 0
HasTables text = All (λ (t : Name × TableRows). IsTable t.1) text.tables
