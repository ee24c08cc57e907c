use Rattle.mx_print.proofs.TextLemmas.{escaped_more}
use Rattle.mx_print.proofs.nodes.push_escaped.Goals as goal

pub loop-byte-preserved : goal.loop-byte-preserved
loop-byte-preserved g c = rw (c.in_ok-push_escaped_byte.ensures, c.loop-byte.invariant) (escaped_more (g.S.Sink.written c.args.out.now) c.args.text.now c.loop-byte.byte-index c.loop-byte-test.true)
