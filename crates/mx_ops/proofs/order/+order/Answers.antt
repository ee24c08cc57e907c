use Rattle.std.proofs.Common.{◌≤◌, ◌<◌, length, map, sym, ◌∙◌, ap, arith}
use Rattle.std.proofs.lemmas.Bool.{ltb-false}
use Rattle.mx_ops.specs.Order.{order, in_turn, tuple_order}
use Rattle.mx_ops.proofs.Orders.{order-Tup, order-others, none_left, some_left}
use Rattle.mx_ops.proofs.order.+order.Goals as goal

pub compare-returns-in-Some : goal.compare-returns-in-Some
compare-returns-in-Some t c =
    c.compare_items.ensures ∙ ap (in_turn (map order c.in-Tup.xs)) c.as_slice.ensures
    ∙ ap (tuple_order (map order c.in-Tup.xs)) (sym c.in-Some.ensures)
    ∙ sym (order-Tup c.in-Tup.xs c.args.b.now) ∙ ap (λ v. order v c.args.b.now) (sym c.in-Tup.is)

pub compare-returns-in-None : goal.compare-returns-in-None
compare-returns-in-None t c =
    ap (tuple_order (map order c.in-Tup.xs)) (sym c.in-None.ensures)
    ∙ sym (order-Tup c.in-Tup.xs c.args.b.now) ∙ ap (λ v. order v c.args.b.now) (sym c.in-Tup.is)

pub compare-returns-in_default : goal.compare-returns-in_default
compare-returns-in_default t c = c.compare_plain.ensures ∙ sym (ap (λ f. f c.args.b.now) (order-others c.args.a.now c.in_default.not-Tup))

pub compare_items-returns-in_default : goal.compare_items-returns-in_default
compare_items-returns-in_default t c =
    let i : c.loop-i.i < length c.args.xs.now = omega (arith, ap length c.as_slice-x-items.ensures) in
    let past : length c.args.ys.now ≤ c.loop-i.i = ltb-false c.loop-i.i (length c.args.ys.now) (sym c.in_default.ensures.lookup.0) in
    sym (c.loop-i.invariant.left ∙ none_left c.args.xs.now c.args.ys.now c.loop-i.i i past)

pub compare_items-returns-then-len-ys : goal.compare_items-returns-then-len-ys
compare_items-returns-then-len-ys t c =
    let xs : length c.args.xs.now ≤ c.loop-i.i = omega (arith, ap length c.as_slice-x-items.ensures) in
    let ys : c.loop-i.i < length c.args.ys.now = omega (arith, ap length c.as_slice-x-items.ensures, c.len.ensures) in
    sym (c.loop-i.invariant.left ∙ some_left c.args.xs.now c.args.ys.now c.loop-i.i xs ys)
