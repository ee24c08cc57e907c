use Rattle.mx_syntax.proofs.BindLemmas.{defaults_more}
use Rattle.mx_syntax.proofs.bind.with_defaults.Goals as goal

pub loop-param-preserved : goal.loop-param-preserved
loop-param-preserved c = rw (c.in_ok-add_default.ensures, c.loop-param.invariant) (defaults_more c.args.args c.args.params.now c.loop-param.param-index c.param-item.result c.loop-param-test.true c.param-item.is)
