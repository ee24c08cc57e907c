use Rattle.std.proofs.Common.{◌∙◌, List, ap}
use Rattle.mx_graph.specs.declared.ids.NodeId.{NodeId}
use Rattle.mx_vertices.specs.Kept.{Source}
use Rattle.mx_vertices.specs.Held.{sources_of}
use Rattle.mx_vertices.specs.Reading.{keys_in}
use Rattle.mx_vertices.proofs.Walking.{read_sources}
use Rattle.mx_vertices.proofs.walks.HeldKeys.of.Goals as goal

pub returns : goal.returns
returns c =
    ap (λ (ids : List NodeId). keys_in (sources_of c.args.slots.now ids)) c.of.ensures
    ∙ ap (λ (rs : List Source). keys_in rs) (read_sources c.args.slots.now c.args.id c.args.graph.now.edges)
