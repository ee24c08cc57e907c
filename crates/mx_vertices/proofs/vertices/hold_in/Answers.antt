use Rattle.std.proofs.Common.{◌≡◌, ◌∙◌, ℕ, ◌++◌, ◌∷◌, [], List, Option, Some, None, ap, sym, subst, refl, length, arith, ◌+◌}
use Rattle.std.proofs.Math.ListN.{set}
use Rattle.mx_graph.specs.declared.ids.NodeId.{NodeId}
use Rattle.mx_graph.specs.Relation.{IsRelation}
use Rattle.mx_vertices.specs.declared.slot.Held.{Held}
use Rattle.mx_vertices.specs.Places.{at}
use Rattle.mx_vertices.specs.Kept.{Kept, own_key, IsWhole, entries}
use Rattle.mx_vertices.proofs.Pushing.{whole_same, put_last, put_whole, put_entries, entries_same, relation_same}
use Rattle.mx_vertices.proofs.Reading.{stays_there}
use Rattle.mx_vertices.proofs.vertices.hold_in.Goals as goal

pub returns-in_err-grow-clause-whole : goal.returns-in_err-grow-clause-whole
returns-in_err-grow-clause-whole c = whole_same c.args.graph.now c.reserve.new.self c.args.slots.now.items c.grow.new.slots.items c.args.order.now.items c.args.order.now.items c.args.keys.now c.reserve.ensures.same.0 c.reserve.ensures.same.1 c.grow.ensures.same (λ p. refl) c.requires

pub returns-in_err-push_none-clause-whole : goal.returns-in_err-push_none-clause-whole
returns-in_err-push_none-clause-whole c =
    let still : c.push_none.new.order.items ≡ c.args.order.now.items = c.in_err-push_none.ensures.err in
    whole_same c.args.graph.now c.reserve.new.self c.args.slots.now.items c.grow.new.slots.items c.args.order.now.items c.push_none.new.order.items c.args.keys.now c.reserve.ensures.same.0 c.reserve.ensures.same.1 c.grow.ensures.same (λ p. ap (λ (xs : List (Option NodeId)). at xs p) still) c.requires

abbrev held_of : (c : goal.After-put_node-id) → Held
held_of c = record { body = c.args.body; place = c.len-place.result }

place_is : (c : goal.After-put_node-id) → c.len-place.result ≡ length c.args.order.now.items
place_is c = let l = c.len-place.ensures in omega arith

order_is : (c : goal.After-put_node-id) → c.put_node-id.new.order.items ≡ c.args.order.now.items ++ Some c.put_node-id.result ∷ []
order_is c =
    let ok : c.push_none.new.order.items ≡ c.args.order.now.items ++ None ∷ [] = c.in_ok-push_none.ensures.ok in
    c.put_node-id.ensures.order
    ∙ ap (λ (xs : List (Option NodeId)). set xs c.len-place.result (Some c.put_node-id.result)) ok
    ∙ ap (λ (n : ℕ). set (c.args.order.now.items ++ None ∷ []) n (Some c.put_node-id.result)) (place_is c)
    ∙ put_last c.args.order.now.items c.put_node-id.result

whole_of : (c : goal.After-put_node-id) → IsWhole c.reserve.new.self c.grow.new.slots.items c.args.order.now.items c.args.keys.now
whole_of c = whole_same c.args.graph.now c.reserve.new.self c.args.slots.now.items c.grow.new.slots.items c.args.order.now.items c.args.order.now.items c.args.keys.now c.reserve.ensures.same.0 c.reserve.ensures.same.1 c.grow.ensures.same (λ p. refl) c.requires

relation_of : (c : goal.After-put_node-id) → IsRelation c.reserve.new.self
relation_of c = relation_same c.args.graph.now c.reserve.new.self c.reserve.ensures.same.0 c.reserve.ensures.same.1 c.relation.ensures

pub returns-clause-whole : goal.returns-clause-whole
returns-clause-whole c =
    let e = c.put_node-id.ensures in
    subst (λ (xs : List (Option NodeId)). IsWhole c.put_node-id.new.graph c.put_node-id.new.slots.items xs c.args.keys.now) (sym (order_is c))
    (put_whole c.reserve.new.self c.put_node-id.new.graph c.grow.new.slots.items c.put_node-id.new.slots.items c.args.order.now.items c.args.keys.now c.put_node-id.result (held_of c) (relation_of c) (whole_of c) e.fresh e.nodes e.edges e.slots (place_is c))

pub returns-clause-held : goal.returns-clause-held
returns-clause-held c =
    let e = c.put_node-id.ensures in
    ap (λ (xs : List (Option NodeId)). entries c.put_node-id.new.graph.edges c.put_node-id.new.slots.items 0 xs) (order_is c)
    ∙ put_entries c.reserve.new.self c.put_node-id.new.graph c.grow.new.slots.items c.put_node-id.new.slots.items c.args.order.now.items c.args.keys.now c.put_node-id.result (held_of c) (relation_of c) (whole_of c) e.fresh e.nodes e.edges e.slots (place_is c)
    ∙ ap (λ (rs : List Kept). rs ++ record { stamp = length c.args.order.now.items + 1; id = c.put_node-id.result.at; body = c.args.body; sources = own_key c.args.body.node } ∷ [])
    (entries_same c.args.graph.now.edges c.reserve.new.self.edges c.args.slots.now.items c.grow.new.slots.items c.args.order.now.items c.reserve.ensures.same.1 c.grow.ensures.same)

pub returns-clause-stays : goal.returns-clause-stays
returns-clause-stays c q n =
    let e = c.put_node-id.ensures in
    stays_there c.reserve.new.self.nodes c.grow.new.slots.items c.put_node-id.new.slots.items c.args.order.now.items c.args.keys.now c.put_node-id.result q _ (whole_of c).placed e.fresh e.slots (λ f. n (sym (c.grow.ensures.same q) ∙ f)) ∙ c.grow.ensures.same q

pub returns-clause-order : goal.returns-clause-order
returns-clause-order c = order_is c
