use Rattle.std.proofs.Common.{sym}
use Rattle.mx_edit.specs.Rows.{TableRows}
use Rattle.mx_model.specs.Records.{Name}
use Rattle.mx_project.specs.Lines.{table_line}
use Rattle.mx_project.proofs.Pieces.{line_more}
use Rattle.mx_project.proofs.bytes.push_tables.Goals as goal

pub loop-place-preserved : goal.loop-place-preserved
loop-place-preserved c =
    rw (c.in_ok-push_table.ensures, c.loop-place.invariant)
    (line_more c.args.tables.now c.loop-place.place (c.in-Some.name.now, c.in-Some.field-0-1.now) (λ (t : Name × TableRows). table_line t.0) c.args.out.now.items (sym c.in-Some.ensures))
