use Rattle.std.proofs.Common.{◌∙◌, List, map as map_list, ap}
use Rattle.mx_graph.specs.declared.ids.NodeId.{NodeId}
use Rattle.mx_vertices.specs.Kept.{Source}
use Rattle.mx_vertices.specs.Reading.{asks_in, id_at, reads_in}
use Rattle.mx_vertices.specs.Walks.{asks_among}
use Rattle.mx_vertices.proofs.EdgeWalks.{asks_are}
use Rattle.mx_vertices.proofs.Walking.{read_sources}
use Rattle.mx_vertices.proofs.walks.Asks.of.Goals as goal

pub returns : goal.returns
returns c =
    ap (λ (ids : List NodeId). map_list id_at (asks_among c.args.slots.now ids)) c.of.ensures
    ∙ asks_are c.args.slots.now (reads_in c.args.id c.args.graph.now.edges)
    ∙ ap (λ (rs : List Source). asks_in rs) (read_sources c.args.slots.now c.args.id c.args.graph.now.edges)
