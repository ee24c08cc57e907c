use Rattle.std.proofs.Common.{◌∙◌, List, Option, map as map_list, ap, refl, inl, inr}
use Rattle.std.specs.Prelude.{option_to_list}
use Rattle.mx_graph.specs.declared.ids.EdgeId.{EdgeId}
use Rattle.mx_graph.specs.Relation.{Entry}
use Rattle.mx_vertices.specs.Reading.{entry_read, entry_reader}
use Rattle.mx_vertices.specs.Walks.{still}
use Rattle.mx_vertices.proofs.EdgeWalks.{still_first}
use Rattle.mx_vertices.proofs.along.Readers.of_key.Goals.{in-Some, in-None}
use Rattle.mx_vertices.proofs.along.Readers.of_key.Goals as goal

pub returns : goal.returns
returns c = record {
  readers = map_list entry_reader (still entry_read c.match-find_key.next c.args.graph.now.edges);
  own = option_to_list c.node_of_input-last.result;
  readers_are =
      elim c.match-find_key.branch [
        | in-Some w ↦ inl (
          w.in-Some.id,
          w.in-Some.ensures.some,
          ap (λ (es : List Entry). map_list entry_reader es)
              (ap (λ (o : Option EdgeId). still entry_read o c.args.graph.now.edges) (w.next-is ∙ w.first_reader-next.ensures.first) ∙ still_first entry_read c.args.graph.now.edges w.first_reader-next.ensures.relation.apart w.in-Some.id),
        )
        | in-None w ↦ inr (
          w.in-None.ensures.none,
          ap (λ (o : Option EdgeId). map_list entry_reader (still entry_read o c.args.graph.now.edges)) w.next-is,
        )
      ];
  own_is = c.node_of_input-last.ensures;
  all = refl;
}
