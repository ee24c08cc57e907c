use Rattle.std.proofs.Common.{sym, ap, ◌∙◌, ◌∷◌, ◌++◌, reverse, get_or}
use Rattle.mx_syntax.specs.declared.expr.Sign.TheVariants.{Plus}
use Rattle.mx_code.specs.declared.action.Action.TheVariants.{Unary}
use Rattle.mx_code.specs.Operators.{sign_op}
use Rattle.mx_code.specs.Expressions.{at}
use Rattle.mx_code.proofs.Putting.{signs_more}
use Rattle.mx_code.proofs.expressions.put_signs.Goals as goal

pub loop-sign-preserved : goal.loop-sign-preserved
loop-sign-preserved c =
    c.in_ok-put.ensures ∙ ap (λ o. at c.args.line (Unary o) ∷ reverse c.loop-sign.code.items) c.sign_op.ensures
    ∙ ap (λ is. at c.args.line (Unary (sign_op (get_or c.args.signs.now c.loop-sign.sign-index Plus))) ∷ is) c.loop-sign.invariant
    ∙ ap (λ is. is ++ reverse c.args.code.now.items) (sym (signs_more c.args.signs.now c.loop-sign.sign-index Plus c.args.line c.loop-sign-test.true))
