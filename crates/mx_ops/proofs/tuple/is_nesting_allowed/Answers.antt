use Rattle.std.proofs.Common.{◌∙◌, true, false, ap, refl}
use Rattle.mx_ops.proofs.Sizes.{are_shallow, nested}
use Rattle.mx_ops.proofs.tuple.is_nesting_allowed.Goals as goal

pub returns-then-are_shallow : goal.returns-then-are_shallow
returns-then-are_shallow c =
    nested c.args.xs.now c.args.ys.now true c.are_shallow-then-are_shallow.result (c.if-are_shallow.ensures ∙ ap are_shallow c.as_slice.ensures)
    (c.are_shallow-then-are_shallow.ensures ∙ ap are_shallow c.as_slice-then-are_shallow.ensures)

pub returns-else-are_shallow : goal.returns-else-are_shallow
returns-else-are_shallow c =
    c.if-are_shallow.false ∙ nested c.args.xs.now c.args.ys.now false (are_shallow c.args.ys.now) (c.if-are_shallow.ensures ∙ ap are_shallow c.as_slice.ensures) refl
