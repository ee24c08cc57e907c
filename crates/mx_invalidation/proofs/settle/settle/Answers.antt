use Rattle.std.proofs.Common.{rules, ◌≡◌, ◌∙◌, ◌+◌, List, Option, Some, None, is_some, subst, sym, ap, arith, length, Vec, Global}
use Rattle.mx_vertices.specs.declared.slot.Slot.{Slot}
use Rattle.std.specs.Prelude.{filter}
use Rattle.std.proofs.lemmas.Fn.{filter_same}
use Rattle.mx_graph.specs.declared.ids.NodeId.{NodeId}
use Rattle.mx_vertices.specs.Places.{at, Has, StandOnce}
use Rattle.mx_vertices.proofs.Places.{at_has}
use Rattle.mx_invalidation.proofs.Settling.{has_there, has_untaken, once_taken, settling_next, settling_free, settling_all, IsSettling, slot_below, at_index}
use Rattle.mx_invalidation.proofs.settle.settle.Goals.{in-Some, in_default}
use Rattle.mx_invalidation.proofs.settle.settle.Goals as goal

pub move_to-requires : goal.move_to-requires
move_to-requires c =
    let taken : c.retain.new.self.items ≡ filter is_some c.args.list.now.items = filter_same _ _ _ (λ x b f' k. search rules) _ _ c.retain.ensures.filtered in
    let e : at c.retain.new.self.items c.loop-place.place ≡ Some c.in-Some.id
    = sym (at_index c.retain.new.self.items c.loop-place.place c.index.result.now (let l = c.loop-place-test.true in let n = c.len-place-end.ensures in omega (arith, l, n))) ∙ sym c.index.ensures ∙ c.in-Some.is in
    let h : Has c.args.list.now.items (Some c.in-Some.id)
    = has_untaken c.args.list.now.items c.in-Some.id (subst (λ (xs : List (Option NodeId)). Has xs (Some c.in-Some.id)) taken (has_there c.retain.new.self.items c.loop-place.place c.in-Some.id e)) in
    let f = at_has c.args.list.now.items c.in-Some.id h in
    let below = slot_below c.args.slots.now.items c.in-Some.id.at (c.requires.there f.0 c.in-Some.id f.1) in
    let same = c.loop-place.invariant.length in
    omega (arith, below, same)

pub loop-place-preserved : goal.loop-place-preserved
loop-place-preserved c =
    let taken : c.retain.new.self.items ≡ filter is_some c.args.list.now.items = filter_same _ _ _ (λ x b f' k. search rules) _ _ c.retain.ensures.filtered in
    let once : StandOnce c.retain.new.self.items = subst StandOnce (sym taken) (once_taken c.args.list.now.items c.requires.once) in
    let here = sym (at_index c.retain.new.self.items c.loop-place.place c.index.result.now (let l = c.loop-place-test.true in let n = c.len-place-end.ensures in omega (arith, l, n))) ∙ sym c.index.ensures in
    elim c.match-index.branch [
      | in-Some w ↦
          let e : at c.retain.new.self.items c.loop-place.place ≡ Some w.in-Some.id = here ∙ w.in-Some.is in
          let is : c.match-index.slots.items ≡ w.move_to.new.slots.items = ap (λ (v : Vec Slot Global). v.items) w.slots-is in
          record {
            settling = subst (λ (xs : List Slot). IsSettling c.args.slots.now.items xs c.retain.new.self.items (c.loop-place.place + 1)) (sym is) (settling_next c.args.slots.now.items c.loop-place.slots.items w.move_to.new.slots.items c.retain.new.self.items c.loop-place.place w.in-Some.id once e w.move_to.ensures.slots c.loop-place.invariant.settling);
            length = ap (λ (xs : List Slot). length xs) is ∙ w.move_to.ensures.length ∙ c.loop-place.invariant.length;
          }
      | in_default w ↦
          let e : at c.retain.new.self.items c.loop-place.place ≡ None = here ∙ search rules in
          let is : c.match-index.slots.items ≡ c.loop-place.slots.items = ap (λ (v : Vec Slot Global). v.items) w.slots-is in
          record {
            settling = subst (λ (xs : List Slot). IsSettling c.args.slots.now.items xs c.retain.new.self.items (c.loop-place.place + 1)) (sym is) (settling_free c.args.slots.now.items c.loop-place.slots.items c.retain.new.self.items c.loop-place.place e c.loop-place.invariant.settling);
            length = ap (λ (xs : List Slot). length xs) is ∙ c.loop-place.invariant.length;
          }
    ]

pub returns-clause-list : goal.returns-clause-list
returns-clause-list c = filter_same _ _ _ (λ x b f' k. search rules) _ _ c.retain.ensures.filtered

pub returns-clause-settled : goal.returns-clause-settled
returns-clause-settled c = settling_all c.args.slots.now.items c.loop-place.slots.items c.retain.new.self.items c.loop-place.place (search rules) c.loop-place.invariant.settling
