use Rattle.std.proofs.Common.{◌≡◌, ◌++◌, map, take}
use Rattle.mx_syntax.specs.Lists.{flat}
use Rattle.mx_text.specs.Blocks.{node_line}
use Rattle.mx_text.proofs.blocks.push_node_lines.Given as goal

abbrev pub invariant-loop-node : goal.invariant-loop-node
invariant-loop-node l = l.out.items ≡ l.fn.out.items ++ flat (map node_line (take l.node-index l.nodes))
