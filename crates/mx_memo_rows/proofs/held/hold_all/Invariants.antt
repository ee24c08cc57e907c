use Rattle.mx_memo.specs.Memos.{AreHeld}
use Rattle.mx_memo_rows.proofs.held.hold_all.Given as goal

abbrev pub invariant-loop-n : goal.invariant-loop-n
invariant-loop-n l = AreHeld l.memo.held l.recent.items
