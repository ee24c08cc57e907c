use Rattle.std.proofs.Common.{◌≡◌, ◌∙◌, ◌++◌, ◌∷◌, [], ◌+◌, List, Option, length, map as map_list, ap, refl, subst}
use Rattle.mx_graph.specs.declared.ids.NodeId.{NodeId}
use Rattle.mx_vertices.specs.declared.slot.Held.{Held}
use Rattle.mx_vertices.specs.declared.slot.Slot.{Slot}
use Rattle.mx_vertices.specs.Kept.{Kept, Source, own_key, entries}
use Rattle.mx_vertices.specs.Held.{sources_of, with_sources}
use Rattle.mx_vertices.proofs.Sources.{sources_stay, with_last, apart_last}
use Rattle.mx_vertices.proofs.holding.hold_with.Goals as goal

pub returns-clause-held : goal.returns-clause-held
returns-clause-held c =
    let e = c.in_ok-id.ensures in
    let slots = c.args.slots.now.items in
    let before : List Kept = entries c.args.graph.now.edges c.args.slots.now.items 0 c.args.order.now.items in
    let last : Kept = record { stamp = length c.args.order.now.items + 1; id = c.in_ok-id.id.at; body = c.args.body; sources = own_key c.args.body.node } in
    let held : Held = record { body = c.args.body; place = length c.args.order.now.items } in
    let read : entries c.read_all.new.graph.edges c.hold_in.new.slots.items 0 c.hold_in.new.order.items ≡ map_list (with_sources c.in_ok-id.id.at (sources_of c.hold_in.new.slots.items c.args.sources.now)) (entries c.hold_in.new.graph.edges c.hold_in.new.slots.items 0 c.hold_in.new.order.items)
    = subst (λ (xs : List (Option NodeId)). entries c.read_all.new.graph.edges c.hold_in.new.slots.items 0 xs ≡ map_list (with_sources c.in_ok-id.id.at (sources_of c.hold_in.new.slots.items c.args.sources.now)) (entries c.hold_in.new.graph.edges c.hold_in.new.slots.items 0 xs)) c.as_slice-2.ensures.value
    (subst (λ (xs : List Slot). entries c.read_all.new.graph.edges xs 0 c.as_slice-2.result.now ≡ map_list (with_sources c.in_ok-id.id.at (sources_of xs c.args.sources.now)) (entries c.hold_in.new.graph.edges xs 0 c.as_slice-2.result.now)) c.as_slice.ensures.value c.read_all.ensures.read) in
    read
    ∙ ap (map_list (with_sources c.in_ok-id.id.at (sources_of c.hold_in.new.slots.items c.args.sources.now))) e.held
    ∙ with_last c.in_ok-id.id.at (sources_of c.hold_in.new.slots.items c.args.sources.now) before last refl
    (apart_last c.args.graph.now c.args.slots.now.items c.hold_in.new.slots.items c.args.order.now.items c.args.keys.now c.requires.whole c.in_ok-id.id.at held e.node refl e.stays)
    ∙ ap (λ (rs : List Source). before ++ record last { sources = own_key c.args.body.node ++ rs } ∷ []) (sources_stay c.args.slots.now.items c.hold_in.new.slots.items c.args.sources.now (λ j i. e.stays j.at (c.requires.there j i)))
