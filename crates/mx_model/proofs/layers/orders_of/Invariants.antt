use Rattle.std.proofs.Common.{◌≡◌, Ok, take}
use Rattle.mx_c3.specs.Linearisation.{c3, each}
use Rattle.mx_model.specs.Layers.{base_lists}
use Rattle.mx_model.proofs.layers.orders_of.Given as goal

abbrev pub invariant-loop-s : goal.invariant-loop-s
invariant-loop-s l = each (c3 (base_lists l.text)) (take l.s-index l.s-items) ≡ Ok l.orders.items
