use Rattle.std.proofs.Common.{◌∙◌, ◌++◌, List, map as map_list, ap, sym, subst, inl, inr}
use Rattle.mx_graph.specs.declared.ids.NodeId.{NodeId}
use Rattle.mx_vertices.specs.Places.{slot_at, Has}
use Rattle.mx_vertices.specs.Kept.{Source, IsNode, looked}
use Rattle.mx_vertices.specs.Held.{sources_of, AreNodes}
use Rattle.mx_vertices.proofs.Reading.{node_not_free}
use Rattle.mx_vertices.proofs.Sources.{sources_push, asked_sources, has_either}
use Rattle.mx_vertices.proofs.holding.vertices_of.Goals as goal

nodes_stay : (c : goal.In_ok-put_ids) → AreNodes c.key_vertices.new.slots.items c.args.asks.now
nodes_stay c id i =
    let n = c.requires.asks id i in
    subst IsNode (sym (c.key_vertices.ensures.stays id.at (node_not_free (slot_at c.args.slots.now.items id.at) n))) n

pub returns-clause-sources : goal.returns-clause-sources
returns-clause-sources c =
    ap (sources_of c.key_vertices.new.slots.items) c.in_ok-put_ids.ensures
    ∙ sources_push c.key_vertices.new.slots.items c.key_vertices.new.sources.items c.args.asks.now
    ∙ ap (λ (rs : List Source). rs ++ sources_of c.key_vertices.new.slots.items c.args.asks.now) c.in_ok-key_vertices.ensures.sources
    ∙ ap (λ (rs : List Source). map_list looked c.args.wanted.now ++ rs) (asked_sources c.key_vertices.new.slots.items c.args.asks.now (nodes_stay c))

pub returns-clause-there : goal.returns-clause-there
returns-clause-there c id i f =
    elim (has_either c.key_vertices.new.sources.items c.args.asks.now id (subst (λ (xs : List NodeId). Has xs id) c.in_ok-put_ids.ensures i)) [
      | inl h ↦ c.key_vertices.ensures.there id h f
      | inr h ↦ node_not_free (slot_at c.key_vertices.new.slots.items id.at) (nodes_stay c id h) f
    ]
