use Rattle.std.proofs.Common.{◌≡◌, ◌++◌}
use Rattle.std.specs.Prelude.{take}
use Rattle.mx_vertices.proofs.holding.put_ids.Given as goal

abbrev pub invariant-loop-id : goal.invariant-loop-id
invariant-loop-id l = l.list.items ≡ l.fn.list.items ++ take l.id-index l.more
