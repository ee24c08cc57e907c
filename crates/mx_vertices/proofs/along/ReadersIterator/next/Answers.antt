use Rattle.std.proofs.Common.{◌∙◌, ◌++◌, List, Option, map as map_list, ap, sym, subst}
use Rattle.std.specs.Prelude.{IfSome, option_to_list}
use Rattle.mx_graph.specs.declared.ids.NodeId.{NodeId}
use Rattle.mx_graph.specs.declared.ids.EdgeId.{EdgeId}
use Rattle.mx_graph.specs.Relation.{IsEdge}
use Rattle.mx_vertices.specs.Reading.{entry_read, entry_reader}
use Rattle.mx_vertices.specs.Walks.{still}
use Rattle.mx_vertices.proofs.EdgeWalks.{comes, goes}
use Rattle.mx_vertices.proofs.along.ReadersIterator.next.Goals as goal

pub returns-clause-steps : goal.returns-clause-steps
returns-clause-steps c =
    sym c.self.view_is
    ∙ ap (λ (o : Option EdgeId). map_list entry_reader (still entry_read o c.self.inside.graph.now.edges) ++ option_to_list c.self.inside.last) c.in-Some.is
    ∙ ap (λ (ids : List NodeId). ids ++ option_to_list c.self.inside.last)
    (comes entry_read entry_reader c.self.inside.graph.now.edges c.relation.ensures.apart c.in-Some.edge.at (subst (λ (o : Option EdgeId). IfSome o (IsEdge c.self.inside.graph.now)) c.in-Some.is c.self.invariant) c.reader_of-reader.result c.next_reader-self-inside.result
    c.reader_of-reader.ensures.reader c.next_reader-self-inside.ensures.next)

pub returns-clause-goes : goal.returns-clause-goes
returns-clause-goes c = goes c.args.self.now c.reader_of-reader.result c.reader_of-reader.result _ (returns-clause-steps c)
