use Rattle.mx_text.specs.Blocks.{read_line}
use Rattle.mx_syntax.proofs.ListLemmas.{flat_more}
use Rattle.mx_text.proofs.blocks.push_read_lines.Goals as goal

pub loop-read-preserved : goal.loop-read-preserved
loop-read-preserved c = rw (c.in_ok-push_read_line.ensures, c.loop-read.invariant) (flat_more read_line c.args.out.now.items c.args.reads.now c.loop-read.read-index c.read-item.result c.loop-read-test.true c.read-item.is)
