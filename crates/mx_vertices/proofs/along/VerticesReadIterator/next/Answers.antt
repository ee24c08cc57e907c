use Rattle.std.proofs.Common.{◌∙◌, Option, map as map_list, ap, sym, subst}
use Rattle.std.specs.Prelude.{IfSome}
use Rattle.mx_graph.specs.declared.ids.EdgeId.{EdgeId}
use Rattle.mx_graph.specs.Relation.{IsEdge}
use Rattle.mx_vertices.specs.Reading.{entry_read, entry_reader}
use Rattle.mx_vertices.specs.Walks.{still}
use Rattle.mx_vertices.proofs.EdgeWalks.{comes, goes}
use Rattle.mx_vertices.proofs.along.VerticesReadIterator.next.Goals as goal

pub returns-clause-steps : goal.returns-clause-steps
returns-clause-steps c =
    sym c.self.view_is
    ∙ ap (λ (o : Option EdgeId). map_list entry_read (still entry_reader o c.self.inside.graph.now.edges)) c.in-Some.is
    ∙ comes entry_reader entry_read c.self.inside.graph.now.edges c.relation.ensures.apart c.in-Some.edge.at (subst (λ (o : Option EdgeId). IfSome o (IsEdge c.self.inside.graph.now)) c.in-Some.is c.self.invariant) c.read_of-read.result c.next_read-self-inside.result
    c.read_of-read.ensures.read c.next_read-self-inside.ensures.next

pub returns-clause-goes : goal.returns-clause-goes
returns-clause-goes c = goes c.args.self.now c.read_of-read.result c.read_of-read.result _ (returns-clause-steps c)
