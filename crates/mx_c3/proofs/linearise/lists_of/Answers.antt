use Rattle.std.proofs.Common.{◌∙◌, ◌++◌, ◌∷◌, [], take, sym, ap}
use Rattle.mx_c3.specs.Known.{orders_of}
use Rattle.mx_c3.proofs.Working.{orders_more_some, orders_more_none}
use Rattle.mx_c3.proofs.linearise.lists_of.Goals as goal
use Rattle.mx_c3.proofs.linearise.lists_of.Goals.{in-Some+in_ok-push, in_default}

pub loop-base-preserved : goal.loop-base-preserved
loop-base-preserved c =
    elim c.match-order_at.branch [
      | in-Some+in_ok-push w ↦
          ap (λ v. v.items) w.lists-is ∙ w.in_ok-push.ensures.items ∙ ap (λ zs. zs ++ w.new.result ∷ []) c.loop-base.invariant ∙ ap (λ o. orders_of c.args.orders.now (take c.loop-base.base-index c.as_slice-base-items.result.now) ++ o ∷ []) (w.new.ensures ∙ w.as_slice-in-Some.ensures)
          ∙ sym (orders_more_some c.args.orders.now c.as_slice-base-items.result.now c.loop-base.base-index (record { 0 = 0 }) w.in-Some.order.now c.loop-base-test.true w.in-Some.ensures)
      | in_default w ↦
          ap (λ v. v.items) w.lists-is ∙ c.loop-base.invariant
          ∙ sym (orders_more_none c.args.orders.now c.as_slice-base-items.result.now c.loop-base.base-index (record { 0 = 0 }) c.loop-base-test.true w.in_default.ensures)
    ]
