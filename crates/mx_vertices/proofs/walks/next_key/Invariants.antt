use Rattle.std.proofs.Common.{◌≡◌}
use Rattle.mx_vertices.specs.Held.{sources_of}
use Rattle.mx_vertices.specs.Reading.{keys_in}
use Rattle.mx_vertices.proofs.walks.next_key.Given as goal

abbrev pub invariant-nodes : goal.invariant-nodes
invariant-nodes l = (goal.iterator-nodes).can_next l.vertices × (goal.iterator-nodes).is_finite l.vertices × (keys_in (sources_of l.slots l.vertices) ≡ keys_in (sources_of l.slots l.initial.vertices))
