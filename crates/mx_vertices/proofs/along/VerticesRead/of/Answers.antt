use Rattle.std.proofs.Common.{◌∙◌, List, Option, map as map_list, ap}
use Rattle.mx_graph.specs.declared.ids.EdgeId.{EdgeId}
use Rattle.mx_graph.specs.Relation.{Entry}
use Rattle.mx_vertices.specs.Reading.{entry_read, entry_reader}
use Rattle.mx_vertices.specs.Walks.{still}
use Rattle.mx_vertices.proofs.EdgeWalks.{still_first}
use Rattle.mx_vertices.proofs.along.VerticesRead.of.Goals as goal

pub returns : goal.returns
returns c =
    ap (λ (es : List Entry). map_list entry_read es)
    (ap (λ (o : Option EdgeId). still entry_reader o c.args.graph.now.edges) c.first_read.ensures.first ∙ still_first entry_reader c.args.graph.now.edges c.first_read.ensures.relation.apart c.args.id)
