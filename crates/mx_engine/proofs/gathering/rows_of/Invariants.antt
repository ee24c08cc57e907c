use Rattle.std.proofs.Common.{◌≡◌, map, take}
use Rattle.mx_engine.specs.Gathering.{row_of}
use Rattle.mx_engine.proofs.gathering.rows_of.Given as goal

abbrev pub invariant-loop-node : goal.invariant-loop-node
invariant-loop-node l = l.rows.items ≡ map row_of (take l.node-index l.nodes)
