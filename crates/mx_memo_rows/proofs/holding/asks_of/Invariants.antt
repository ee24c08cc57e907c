use Rattle.mx_memo.specs.Memos.{AreHeld}
use Rattle.mx_memo_rows.proofs.holding.asks_of.Given as goal

abbrev pub invariant-loop-n : goal.invariant-loop-n
invariant-loop-n l = AreHeld l.memo.held l.asks.items
