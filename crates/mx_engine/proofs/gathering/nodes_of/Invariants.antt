use Rattle.std.proofs.Common.{◌≡◌, drop, map}
use Rattle.mx_vertices.specs.Reading.{id_at}
use Rattle.mx_memo_laws.specs.Entries.{nodes_under}
use Rattle.mx_engine.specs.Gathering.{gathered_on, gathered}
use Rattle.mx_engine.proofs.gathering.nodes_of.Given as goal

abbrev pub invariant-loop-id : goal.invariant-loop-id
invariant-loop-id l = gathered_on l.nodes.keys (nodes_under l.memo.held (map id_at (drop l.id-index l.ids))) ≡ gathered (nodes_under l.memo.held (map id_at l.ids))
