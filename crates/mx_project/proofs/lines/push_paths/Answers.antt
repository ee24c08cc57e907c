use Rattle.std.proofs.Common.{◌≡◌, arith}
use Rattle.std.specs.Prelude.{codes}
use Rattle.mx_text.specs.Edit.{path_text}
use Rattle.mx_print.proofs.TextLemmas.{separated_first, separated_more}
use Rattle.mx_project.proofs.lines.push_paths.Goals as goal
use Rattle.mx_project.proofs.lines.push_paths.Goals.{then-i-gt0+in_ok-push, else-i-gt0}

pub loop-i-preserved : goal.loop-i-preserved
loop-i-preserved c = elim c.if-i-gt0.branch [
  | then-i-gt0+in_ok-push w ↦ rw (c.in_ok-push_path.ensures, c.as_slice.ensures, w.out-is, w.in_ok-push.ensures, c.loop-i.invariant)
      (separated_more path_text (codes ", ") c.args.out.now.items c.args.paths.now c.loop-i.i c.index-paths-i.result w.if-i-gt0.true c.loop-i-test.true c.index-paths-i.is)
  | else-i-gt0 w ↦
      let none : c.loop-i.i ≡ 0 = omega (arith, w.if-i-gt0.false) in
      rw (c.in_ok-push_path.ensures, c.as_slice.ensures, w.out-is, c.loop-i.invariant)
      (separated_first path_text (codes ", ") c.args.out.now.items c.args.paths.now c.loop-i.i c.index-paths-i.result none c.loop-i-test.true c.index-paths-i.is)
]
