use Rattle.std.proofs.Common.{◌∙◌, ◌++◌, ap, reverse}
use Rattle.mx_syntax.specs.declared.expr.Sign.{Sign}
use Rattle.std.proofs.Common.{List}
use Rattle.mx_code.specs.Expressions.{signs_code}
use Rattle.mx_code.proofs.Putting.{raised_more}
use Rattle.mx_code.proofs.expressions.put_raised.Goals as goal

pub loop-i-preserved : goal.loop-i-preserved
loop-i-preserved c =
    raised_more c.args.parts.now c.loop-i.i c.index-parts-i.result c.args.line c.args.code.now.items c.loop-i.code.items c.put.new.code.items c.put_signs.new.code.items c.loop-i-test.true c.index-parts-i.is
    c.loop-i.invariant c.in_ok-put.ensures (c.in_ok-put_signs.ensures ∙ ap (λ (ss : List Sign). signs_code ss c.args.line ++ reverse c.put.new.code.items) c.as_slice.ensures)
