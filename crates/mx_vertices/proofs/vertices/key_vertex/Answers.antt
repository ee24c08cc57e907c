use Rattle.std.proofs.Common.{◌≡◌, ◌∙◌, ℕ, cond, List, Option, Some, ap, sym, subst}
use Rattle.std.specs.HashMap.{get as look_up}
use Rattle.mx_graph.specs.declared.ids.NodeId.{NodeId}
use Rattle.mx_edit.specs.declared.key.Key.{Key}
use Rattle.mx_edit.specs.Equality.{key_eq}
use Rattle.mx_vertices.specs.declared.slot.Slot.{Slot}
use Rattle.mx_vertices.specs.Kept.{IsKeyAt}
use Rattle.mx_vertices.proofs.Table.{ok_on}
use Rattle.mx_vertices.proofs.Watching.{watched_put}
use Rattle.mx_vertices.proofs.vertices.key_vertex.Goals.{In_default}
use Rattle.mx_vertices.proofs.vertices.key_vertex.Goals as goal

-- no vertex is the key
new_of : (c : In_default) → (q : ℕ) → IsKeyAt c.args.slots.now.items q c.args.key.now → ⊥
new_of c q k = c.in_default.ensures.none q (subst (λ (xs : List Slot). IsKeyAt xs q c.args.key.now) (sym c.as_slice.ensures.value) k)

pub new_key-requires-clause-new : goal.new_key-requires-clause-new
new_key-requires-clause-new c q k = new_of ((goal.at.new_key-requires-clause-new c).In_default) q (subst (λ (x : Key). IsKeyAt c.args.slots.now.items q x) c.in_ok-looked.ensures k)

pub returns-clause-watched : goal.returns-clause-watched
returns-clause-watched c =
    let updates = ok_on c.insert.result _ (c.insert.ensures.succeeds c.in_ok-reserve.ensures.ok) c.insert.ensures.updates in
    let entered : c.in_ok-entered.entered ≡ c.args.key.now = c.in_ok-entered.ensures in
    watched_put c.key_laws.ensures (look_up key_eq c.args.table.now) (look_up key_eq c.insert.new.self) c.args.slots.now.items c.new_key.new.slots.items c.in_ok-id.id c.args.key.now
    (λ k. updates.0 k ∙ ap (λ (x : Key). cond (key_eq x k) (Some c.in_ok-id.id) (look_up key_eq c.reserve.new.self k)) entered ∙ ap (λ (o : Option NodeId). cond (key_eq c.args.key.now k) (Some c.in_ok-id.id) o) (c.reserve.ensures.entries.2 k))
    (subst (λ (x : Key). IsKeyAt c.new_key.new.slots.items c.in_ok-id.id.at x) c.in_ok-looked.ensures c.in_ok-id.ensures.key)
    c.in_ok-id.ensures.others (new_of ((goal.at.returns-clause-watched c).In_default)) c.requires.watched
