use Rattle.std.proofs.Common.{◌≡◌, length}
use Rattle.mx_vertices.specs.Live.{AreLive}
use Rattle.mx_vertices.specs.Walks.{keys_read}
use Rattle.mx_vertices.proofs.walks.AllKeysIterator.next.Given as goal

abbrev pub invariant-places : goal.invariant-places
invariant-places l =
    AreLive l.self-inside.graph.now.nodes l.self-inside.keys.now
    × (keys_read l.self-inside.graph.now.edges l.self-inside.slots.now l.self-inside.keys.now ≡ keys_read l.initial.self-inside.graph.now.edges l.initial.self-inside.slots.now l.initial.self-inside.keys.now)

abbrev pub decreases-places : goal.decreases-places
decreases-places l = length l.self-inside.keys.now
