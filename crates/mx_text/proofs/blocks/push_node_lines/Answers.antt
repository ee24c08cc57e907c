use Rattle.mx_text.specs.Blocks.{node_line}
use Rattle.mx_syntax.proofs.ListLemmas.{flat_more}
use Rattle.mx_text.proofs.blocks.push_node_lines.Goals as goal

pub loop-node-preserved : goal.loop-node-preserved
loop-node-preserved c = rw (c.in_ok-push_node_line.ensures, c.loop-node.invariant) (flat_more node_line c.args.out.now.items c.args.nodes.now c.loop-node.node-index c.node-item.result c.loop-node-test.true c.node-item.is)
