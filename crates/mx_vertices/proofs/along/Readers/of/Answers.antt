use Rattle.std.proofs.Common.{◌∙◌, List, Option, map as map_list, ap}
use Rattle.mx_graph.specs.declared.ids.EdgeId.{EdgeId}
use Rattle.mx_graph.specs.Relation.{Entry}
use Rattle.mx_vertices.specs.Reading.{entry_read, entry_reader}
use Rattle.mx_vertices.specs.Walks.{still}
use Rattle.mx_vertices.proofs.EdgeWalks.{still_first}
use Rattle.mx_vertices.proofs.Sources.{append_none}
use Rattle.mx_vertices.proofs.along.Readers.of.Goals as goal

pub returns : goal.returns
returns c =
    append_none (map_list entry_reader (still entry_read c.first_reader.result c.args.graph.now.edges))
    ∙ ap (λ (es : List Entry). map_list entry_reader es)
    (ap (λ (o : Option EdgeId). still entry_read o c.args.graph.now.edges) c.first_reader.ensures.first ∙ still_first entry_read c.args.graph.now.edges c.first_reader.ensures.relation.apart c.args.id)
