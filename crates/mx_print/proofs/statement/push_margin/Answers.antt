use Rattle.std.specs.Prelude.{codes}
use Rattle.mx_print.proofs.ExprLemmas.{again_more}
use Rattle.mx_print.proofs.statement.push_margin.Goals as goal

pub loop-preserved : goal.loop-preserved
loop-preserved g c = rw (c.in_ok-push.ensures, c.loop.invariant) (again_more (g.S.Sink.written c.args.out.now) c.loop.counter (codes "    "))
