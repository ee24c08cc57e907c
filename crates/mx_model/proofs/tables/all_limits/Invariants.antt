use Rattle.std.specs.List.{AllWithin}
use Rattle.mx_edit.specs.Rows.{TableRows}
use Rattle.mx_edit.specs.Table.{IsTable}
use Rattle.mx_model.specs.Records.{Name}
use Rattle.mx_model.proofs.tables.all_limits.Given as goal

abbrev pub invariant-loop-place : goal.invariant-loop-place
invariant-loop-place l = AllWithin (λ (t : Name × TableRows). IsTable t.1) l.tables 0 l.place
