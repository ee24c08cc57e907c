use Rattle.std.proofs.Common.{◌∙◌, ◌+◌, ◌-◌, ◌^◌, min, nat_lt, ap}
use Rattle.mx_ops.proofs.Sizes.{joined-size}
use Rattle.mx_ops.proofs.tuple.is_size_allowed.Goals as goal

pub returns : goal.returns
returns c =
    ap (λ n. nat_lt n 1_000_000) (c.saturating_add.ensures ∙ (λ i. min (c.size_of_items.ensures i + c.size_of_items-2.ensures i) (2 ^ 64 - 1)))
    ∙ joined-size c.args.xs.now c.args.ys.now
