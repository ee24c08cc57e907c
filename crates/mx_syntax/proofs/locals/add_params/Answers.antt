use Rattle.mx_syntax.proofs.LocalLemmas.{add_param_more}
use Rattle.mx_syntax.proofs.locals.add_params.Goals as goal

pub loop-param-preserved : goal.loop-param-preserved
loop-param-preserved c = rw (c.in_ok-add_name.ensures, c.loop-param.invariant) (add_param_more c.args.names.now.items c.args.params.now c.loop-param.param-index c.param-item.result c.loop-param-test.true c.param-item.is)
