use Rattle.std.proofs.Common.{◌∙◌, List, map as map_list, ap, sym, arith}
use Rattle.mx_vertices.specs.Kept.{Source, entries, with_read}
use Rattle.mx_vertices.specs.Held.{with_sources}
use Rattle.mx_vertices.proofs.Sources.{has_at, with_none, with_more, sources_next}
use Rattle.mx_vertices.proofs.holding.read_all.Goals as goal

pub loop-source-init : goal.loop-source-init
loop-source-init c = record {
  whole = c.requires.whole;
  room = let r = c.requires.room in omega arith;
  read = sym (with_none c.args.reader.at (entries c.args.graph.now.edges c.args.slots.now 0 c.args.order.now));
}

pub read_next-requires-clause-read : goal.read_next-requires-clause-read
read_next-requires-clause-read c = c.requires.there _ (has_at c.args.sources.now c.loop-source.source-index _ c.loop-source-test.true)

pub loop-source-preserved : goal.loop-source-preserved
loop-source-preserved c = record {
  whole = c.read_next.ensures.whole;
  room = let r = c.loop-source.invariant.room in let s = c.read_next.ensures.spare in omega arith;
  read =
      c.read_next.ensures.read
      ∙ ap (map_list (with_read c.args.reader.at _)) c.loop-source.invariant.read
      ∙ with_more c.args.reader.at _ _ (entries c.args.graph.now.edges c.args.slots.now 0 c.args.order.now)
      ∙ ap (λ (rs : List Source). map_list (with_sources c.args.reader.at rs) (entries c.args.graph.now.edges c.args.slots.now 0 c.args.order.now)) (sources_next c.args.slots.now c.args.sources.now c.loop-source.source-index _ c.loop-source-test.true);
}
