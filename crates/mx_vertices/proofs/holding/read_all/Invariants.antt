use Rattle.std.proofs.Common.{◌≡◌, ◌+◌, ◌≤◌, length, map as map_list}
use Rattle.std.specs.Prelude.{take}
use Rattle.mx_vertices.specs.Kept.{IsWhole, entries}
use Rattle.mx_vertices.specs.Held.{sources_of, with_sources}
use Rattle.mx_vertices.proofs.holding.read_all.Given as goal

abbrev pub invariant-loop-source : goal.invariant-loop-source
invariant-loop-source l = record {
  whole : IsWhole l.graph l.slots l.order l.keys;
  room : length l.sources ≤ l.graph.spare_edges + l.source-index;
  read : entries l.graph.edges l.slots 0 l.order ≡ map_list (with_sources l.reader.at (sources_of l.slots (take l.source-index l.sources))) (entries l.fn.graph.edges l.slots 0 l.order);
}
