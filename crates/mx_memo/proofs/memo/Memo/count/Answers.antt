use Rattle.std.proofs.Common.{◌∙◌, length, ap, sym}
use Rattle.mx_memo.specs.Memos.{Memory}
use Rattle.mx_invalidation.proofs.Keeping.{entries_length}
use Rattle.mx_memo.proofs.memo.Memo.count.Goals as goal

pub returns : goal.returns
returns c =
    c.self.invariant.counted
    ∙ sym (entries_length c.self.inside.graph.edges c.self.inside.slots.items 0 c.self.inside.order.items)
    ∙ ap (λ (m : Memory). length m.held) c.self.view_is
