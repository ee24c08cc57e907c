use Rattle.mx_model.specs.Layers.{base_lists}
use Rattle.mx_paths.specs.Orders.{AreOrders}
use Rattle.mx_paths.proofs.orders.orders_of.Given as goal

abbrev pub invariant-loop-place : goal.invariant-loop-place
invariant-loop-place l = AreOrders (base_lists l.text) l.orders.items l.place
