use Rattle.std.proofs.Common.{◌∙◌, List, ap}
use Rattle.mx_graph.specs.Relation.{Entry}
use Rattle.mx_vertices.specs.Places.{slot_at}
use Rattle.mx_vertices.specs.Kept.{entries}
use Rattle.mx_vertices.proofs.Reading.{held_live, node_not_free, read_whole, entries_read}
use Rattle.mx_vertices.proofs.vertices.read_next.Goals as goal

pub add_edge-requires-clause-reader : goal.add_edge-requires-clause-reader
add_edge-requires-clause-reader c =
    held_live c.args.graph.now.nodes c.args.slots.now c.args.order.now c.args.keys.now c.requires.whole.placed c.args.reader.at (node_not_free (slot_at c.args.slots.now c.args.reader.at) c.requires.reader)

pub add_edge-requires-clause-read : goal.add_edge-requires-clause-read
add_edge-requires-clause-read c =
    held_live c.args.graph.now.nodes c.args.slots.now c.args.order.now c.args.keys.now c.requires.whole.placed c.args.read.at c.requires.read

pub returns-clause-whole : goal.returns-clause-whole
returns-clause-whole c =
    let e : Entry = record { id = c.add_edge.ensures.edge.0; reader = c.args.reader; read = c.args.read } in
    read_whole c.args.graph.now c.add_edge.new.self c.args.slots.now c.args.order.now c.args.keys.now e c.relation.ensures c.requires.whole
    c.add_edge.ensures.nodes c.add_edge.ensures.edge.1.1 c.requires.reader

pub returns-clause-read : goal.returns-clause-read
returns-clause-read c =
    let e : Entry = record { id = c.add_edge.ensures.edge.0; reader = c.args.reader; read = c.args.read } in
    ap (λ (xs : List Entry). entries xs c.args.slots.now 0 c.args.order.now) c.add_edge.ensures.edge.1.1
    ∙ entries_read c.args.slots.now c.args.graph.now.edges e 0 c.args.order.now
