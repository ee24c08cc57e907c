use Rattle.std.proofs.Common.{◌≡◌}
use Rattle.mx_vertices.specs.Walks.{asks_among}
use Rattle.mx_vertices.proofs.walks.next_ask.Given as goal

abbrev pub invariant-keys : goal.invariant-keys
invariant-keys l = (goal.iterator-keys).can_next l.vertices × (goal.iterator-keys).is_finite l.vertices × (asks_among l.slots l.vertices ≡ asks_among l.slots l.initial.vertices)
