use Rattle.std.proofs.Common.{◌≡◌, map, take}
use Rattle.mx_engine.proofs.ByText.{node_in}
use Rattle.mx_engine.proofs.gathering.by_text.Given as goal

abbrev pub invariant-loop-row : goal.invariant-loop-row
invariant-loop-row l = l.nodes.items ≡ map node_in (take l.row-index l.row-items)
