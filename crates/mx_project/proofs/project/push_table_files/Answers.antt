use Rattle.std.proofs.Common.{sym}
use Rattle.mx_edit.specs.Rows.{TableRows}
use Rattle.mx_model.specs.Records.{Name}
use Rattle.mx_project.specs.Writing.{file_of_table}
use Rattle.mx_project.proofs.Pieces.{each_more}
use Rattle.mx_project.proofs.project.push_table_files.Goals as goal

pub loop-place-preserved : goal.loop-place-preserved
loop-place-preserved c =
    rw (c.in_ok-push.ensures.items, c.in_ok-file.ensures, c.loop-place.invariant)
    (each_more (λ (t : Name × TableRows). file_of_table t.0 t.1) c.args.all.now.items c.args.tables.now c.loop-place.place (c.in-Some.name.now, c.in-Some.table.now) (sym c.in-Some.ensures))
