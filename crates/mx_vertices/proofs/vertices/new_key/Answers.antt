use Rattle.std.proofs.Common.{◌≡◌, ◌∙◌, ℕ, true, false, eqb, ◌++◌, ◌∷◌, [], List, Option, Some, None, cond, ap, sym, subst, refl, length, arith}
use Rattle.std.proofs.Math.ListN.{set}
use Rattle.mx_graph.specs.declared.ids.NodeId.{NodeId}
use Rattle.mx_graph.specs.Relation.{IsRelation}
use Rattle.mx_vertices.specs.declared.slot.Watched.{Watched}
use Rattle.mx_vertices.specs.declared.slot.Slot.TheVariants.{Watch}
use Rattle.mx_vertices.specs.Places.{slot_at}
use Rattle.mx_vertices.specs.Kept.{IsWhole}
use Rattle.mx_vertices.proofs.Pushing.{whole_same, put_last, entries_same, relation_same}
use Rattle.mx_vertices.proofs.Reading.{stays_there}
use Rattle.mx_vertices.proofs.KeyPushing.{put_key_whole, put_key_entries}
use Rattle.std.proofs.lemmas.Bool.{eq-eqb, eqb-true}
use Rattle.mx_vertices.proofs.vertices.new_key.Goals.{After-put_key-id}
use Rattle.mx_vertices.proofs.vertices.new_key.Goals as goal

pub returns-in_err-grow-clause-whole : goal.returns-in_err-grow-clause-whole
returns-in_err-grow-clause-whole c = whole_same c.args.graph.now c.reserve.new.self c.args.slots.now.items c.grow.new.slots.items c.args.order.now c.args.order.now c.args.keys.now.items c.reserve.ensures.same.0 c.reserve.ensures.same.1 c.grow.ensures.same (λ p. refl) c.requires.whole

pub returns-in_err-push_none-clause-whole : goal.returns-in_err-push_none-clause-whole
returns-in_err-push_none-clause-whole c =
    let still : c.push_none.new.order.items ≡ c.args.keys.now.items = c.in_err-push_none.ensures.err in
    subst (λ (xs : List (Option NodeId)). IsWhole c.reserve.new.self c.grow.new.slots.items c.args.order.now xs) (sym still)
    (whole_same c.args.graph.now c.reserve.new.self c.args.slots.now.items c.grow.new.slots.items c.args.order.now c.args.order.now c.args.keys.now.items c.reserve.ensures.same.0 c.reserve.ensures.same.1 c.grow.ensures.same (λ p. refl) c.requires.whole)

abbrev watched_of : (c : goal.After-put_key-id) → Watched
watched_of c = record { key = c.args.key; place = c.len-place.result }

place_is : (c : goal.After-put_key-id) → c.len-place.result ≡ length c.args.keys.now.items
place_is c = let l = c.len-place.ensures in omega arith

keys_is : (c : goal.After-put_key-id) → c.put_key-id.new.keys.items ≡ c.args.keys.now.items ++ Some c.put_key-id.result ∷ []
keys_is c =
    let ok : c.push_none.new.order.items ≡ c.args.keys.now.items ++ None ∷ [] = c.in_ok-push_none.ensures.ok in
    c.put_key-id.ensures.keys
    ∙ ap (λ (xs : List (Option NodeId)). set xs c.len-place.result (Some c.put_key-id.result)) ok
    ∙ ap (λ (n : ℕ). set (c.args.keys.now.items ++ None ∷ []) n (Some c.put_key-id.result)) (place_is c)
    ∙ put_last c.args.keys.now.items c.put_key-id.result

whole_of : (c : goal.After-put_key-id) → IsWhole c.reserve.new.self c.grow.new.slots.items c.args.order.now c.args.keys.now.items
whole_of c = whole_same c.args.graph.now c.reserve.new.self c.args.slots.now.items c.grow.new.slots.items c.args.order.now c.args.order.now c.args.keys.now.items c.reserve.ensures.same.0 c.reserve.ensures.same.1 c.grow.ensures.same (λ p. refl) c.requires.whole

relation_of : (c : goal.After-put_key-id) → IsRelation c.reserve.new.self
relation_of c = relation_same c.args.graph.now c.reserve.new.self c.reserve.ensures.same.0 c.reserve.ensures.same.1 c.relation.ensures

new_of : (c : goal.After-put_key-id) → (q : ℕ) (v : Watched) → slot_at c.grow.new.slots.items q ≡ Watch v → v.key ≡ c.args.key → ⊥
new_of c q v a e = c.requires.new q (record { watched = v; slot = sym (c.grow.ensures.same q) ∙ a; is = e })

pub returns-clause-whole : goal.returns-clause-whole
returns-clause-whole c =
    let e = c.put_key-id.ensures in
    subst (λ (xs : List (Option NodeId)). IsWhole c.put_key-id.new.graph c.put_key-id.new.slots.items c.args.order.now xs) (sym (keys_is c))
    (put_key_whole c.reserve.new.self c.put_key-id.new.graph c.grow.new.slots.items c.put_key-id.new.slots.items c.args.order.now c.args.keys.now.items c.put_key-id.result (watched_of c) (relation_of c) (whole_of c) e.fresh e.nodes e.edges e.slots (new_of c) (place_is c))

pub returns-clause-same : goal.returns-clause-same
returns-clause-same c =
    let e = c.put_key-id.ensures in
    put_key_entries c.reserve.new.self c.put_key-id.new.graph c.grow.new.slots.items c.put_key-id.new.slots.items c.args.order.now c.args.keys.now.items c.put_key-id.result (watched_of c) (relation_of c) (whole_of c) e.fresh e.nodes e.edges e.slots (new_of c) (place_is c)
    ∙ entries_same c.args.graph.now.edges c.reserve.new.self.edges c.args.slots.now.items c.grow.new.slots.items c.args.order.now c.reserve.ensures.same.1 c.grow.ensures.same

pub returns-clause-key : goal.returns-clause-key
returns-clause-key c =
    let s = c.put_key-id.ensures.slots c.put_key-id.result.at in
    record { watched = watched_of c; slot = s ∙ ap (λ b. cond b (Watch (watched_of c)) (slot_at c.grow.new.slots.items c.put_key-id.result.at)) (eq-eqb c.put_key-id.result.at c.put_key-id.result.at refl); is = refl }

pub returns-clause-stays : goal.returns-clause-stays
returns-clause-stays c q n =
    let e = c.put_key-id.ensures in
    stays_there c.reserve.new.self.nodes c.grow.new.slots.items c.put_key-id.new.slots.items c.args.order.now c.args.keys.now.items c.put_key-id.result q _ (whole_of c).placed e.fresh e.slots (λ f. n (sym (c.grow.ensures.same q) ∙ f)) ∙ c.grow.ensures.same q

pub returns-clause-others : goal.returns-clause-others
returns-clause-others c q n =
    c.put_key-id.ensures.slots q
    ∙ elim (eqb c.put_key-id.result.at q) as (λ b. eqb c.put_key-id.result.at q ≡ b → cond b (Watch (watched_of ((goal.at.returns-clause-others c).After-put_key-id))) (slot_at c.grow.new.slots.items q) ≡ slot_at c.grow.new.slots.items q) [
      | true ↦ λ t. absurd (n (eqb-true c.put_key-id.result.at q t))
      | false ↦ λ t. refl
    ] refl
    ∙ c.grow.ensures.same q
