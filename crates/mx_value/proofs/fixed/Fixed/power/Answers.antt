use Rattle.std.proofs.Common.{◌∙◌, sym}
use Rattle.std.proofs.lemmas.Result.{err_from_is_err_and}
use Rattle.mx_value.proofs.PowerLaws.{power-begins, power-more, power-stops}
use Rattle.mx_value.proofs.fixed.Fixed.power.Goals as goal

pub loop-i-init : goal.loop-i-init
loop-i-init c = power-begins c.args.self

pub returns-in_err-product : goal.returns-in_err-product
returns-in_err-product c =
    let p = err_from_is_err_and c.from_residual.result c.from_residual.ensures.1 in
    rw (p.1, p.2) (power-stops c.args.self c.loop-i.product c.loop-i.i c.args.n c.in_err-product.field-0.0 c.loop-i-test.true c.loop-i.invariant c.in_err-product.ensures.value)

pub loop-i-preserved : goal.loop-i-preserved
loop-i-preserved c = power-more c.args.self c.loop-i.product c.loop-i.i _ c.loop-i.invariant c.in_ok-product.ensures.value
