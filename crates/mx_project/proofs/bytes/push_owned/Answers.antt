use Rattle.std.proofs.Common.{sym}
use Rattle.mx_edit.specs.declared.reference.RefValue.{RefValue}
use Rattle.mx_model.specs.Records.{Name}
use Rattle.mx_project.specs.Lines.{ref_line}
use Rattle.mx_project.proofs.Pieces.{line_more}
use Rattle.mx_project.proofs.bytes.push_owned.Goals as goal

pub loop-place-preserved : goal.loop-place-preserved
loop-place-preserved c =
    rw (c.in_ok-push_ref.ensures, c.loop-place.invariant)
    (line_more c.args.references.now c.loop-place.place (c.in-Some.name.now, c.in-Some.value.now) (λ (r : Name × RefValue). ref_line c.args.path.now r.0 r.1) c.args.out.now.items (sym c.in-Some.ensures))
