use Rattle.std.proofs.Common.{◌≡◌, arith, ◌+◌, take, sym, ap, map, List}
use Rattle.std.specs.Prelude.{codes}
use Rattle.std.proofs.lemmas.List.{map-id}
use Rattle.mx_value.specs.declared.label.Label.{Label}
use Rattle.mx_print.specs.Texts.{Text, separated}
use Rattle.mx_print.proofs.TextLemmas.{separated_first, separated_more}
use Rattle.mx_text.proofs.edit.push_path.Goals as goal
use Rattle.mx_text.proofs.edit.push_path.Goals.{then-i-gt0+in_ok-push, else-i-gt0}

abbrev itself : Label → Text
itself name = name

same : (names : List Label) → separated (codes ".") (map itself names) ≡ separated (codes ".") names
same names = ap (λ (ts : List Text). separated (codes ".") ts) (map-id names)

pub loop-i-preserved : goal.loop-i-preserved
loop-i-preserved c = elim c.if-i-gt0.branch [
  | then-i-gt0+in_ok-push w ↦ rw (c.in_ok-push-2.ensures, c.as_slice.ensures.value, w.out-is, w.in_ok-push.ensures, c.loop-i.invariant, sym (same (take c.loop-i.i c.args.names.now)), sym (same (take (c.loop-i.i + 1) c.args.names.now)))
      (separated_more itself (codes ".") c.args.out.now.items c.args.names.now c.loop-i.i c.index-names-i.result w.if-i-gt0.true c.loop-i-test.true c.index-names-i.is)
  | else-i-gt0 w ↦
      let none : c.loop-i.i ≡ 0 = omega (arith, w.if-i-gt0.false) in
      rw (c.in_ok-push-2.ensures, c.as_slice.ensures.value, w.out-is, c.loop-i.invariant, sym (same (take c.loop-i.i c.args.names.now)), sym (same (take (c.loop-i.i + 1) c.args.names.now)))
      (separated_first itself (codes ".") c.args.out.now.items c.args.names.now c.loop-i.i c.index-names-i.result none c.loop-i-test.true c.index-names-i.is)
]
