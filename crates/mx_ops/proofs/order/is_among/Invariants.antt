use Rattle.std.proofs.Common.{◌≡◌, drop}
use Rattle.std.specs.List.{list_any}
use Rattle.mx_ops.specs.Order as spec
use Rattle.mx_ops.proofs.order.is_among.Given as goal

abbrev pub invariant-loop-item : goal.invariant-loop-item
invariant-loop-item l =
    list_any (λ item. spec.equal item l.value) l.items ≡ list_any (λ item. spec.equal item l.value) (drop l.item-index l.items)
