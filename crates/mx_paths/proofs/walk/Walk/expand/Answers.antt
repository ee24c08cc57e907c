use Rattle.std.proofs.Common.{◌≡◌, ◌∙◌, suc, [], ◌∷◌, ◌++◌, ◌-◌, List, Some, Ok, take, refl, ap, sym, arith}
use Rattle.mx_paths.specs.declared.child.Child.{Child}
use Rattle.mx_paths.specs.declared.id.PathId.{PathId}
use Rattle.mx_paths.specs.Table.{paths_in}
use Rattle.mx_paths.specs.Walking.{families_in}
use Rattle.mx_paths.proofs.Steps.{longer_self}
use Rattle.mx_paths.proofs.Walked.{all_expanded}
use Rattle.mx_paths.proofs.Places.{top_open, top_closes, layers_below, row_open, row_closes}
use Rattle.mx_paths.proofs.walk.Walk.expand.Goals as goal

pub add_children-requires-clause-open : goal.add_children-requires-clause-open
add_children-requires-clause-open c =
    let given : c.push.new.self.items ≡ c.args.self.now.top ∷ [] = c.in_ok-push.ensures.items ∙ ap (λ (fs : List (List Child)). fs ++ c.family.result ∷ []) c.new-families.ensures.items ∙ ap (λ (f : List Child). f ∷ []) c.family.ensures in
    record {
      done = [];
      at = top_open c.args.self.now.text.now c.args.self.now.top c.args.self.now.families.items c.args.self.now.orders.items c.args.paths.now c.args.place c.in_ok-empty.field-0 c.push.new.self.items c.requires.ready c.if-place-eq0.true c.requires.walked c.in_ok-empty.ensures given;
    }

pub returns-then-place-eq0 : goal.returns-then-place-eq0
returns-then-place-eq0 c =
    let given : c.push.new.self.items ≡ c.args.self.now.top ∷ [] = c.in_ok-push.ensures.items ∙ ap (λ (fs : List (List Child)). fs ++ c.family.result ∷ []) c.new-families.ensures.items ∙ ap (λ (f : List Child). f ∷ []) c.family.ensures in
    let at = top_open c.args.self.now.text.now c.args.self.now.top c.args.self.now.families.items c.args.self.now.orders.items c.args.paths.now c.args.place c.in_ok-empty.field-0 c.push.new.self.items c.requires.ready c.if-place-eq0.true c.requires.walked c.in_ok-empty.ensures given in
    top_closes c.args.self.now.text.now c.args.paths.now c.add_children-then-place-eq0.new.paths c.args.place c.in_ok-empty.field-0 c.add_children-then-place-eq0.result c.if-place-eq0.true c.in_ok-empty.ensures (c.add_children-then-place-eq0.ensures [] at)

pub are_childless-requires : goal.are_childless-requires
are_childless-requires c = layers_below c.args.self.now.text.now c.args.self.now.top c.args.self.now.families.items c.args.self.now.orders.items c.args.paths.now (record { 0 = c.args.place - 1 }) c.as_slice-layers.result.now c.requires.ready c.requires.walked.begun (c.layers.ensures.exact ∙ ap Some (sym c.as_slice-layers.ensures))

pub returns-then-are_childless : goal.returns-then-are_childless
returns-then-are_childless c =
    let text = c.args.self.now.text.now in
    let rows = c.args.paths.now in
    let families = c.args.self.now.families.items in
    let spaces = c.as_slice-layers.result.now in
    let path = c.path_of-path.result.now in
    let id : PathId = record { 0 = c.args.place - 1 } in
    let z : c.args.place ≡ suc (c.args.place - 1) = omega (arith, c.if-place-eq0.false) in
    let exact = c.layers.ensures.exact ∙ ap Some (sym c.as_slice-layers.ensures) in
    let done = [] ∷ take id.0 (paths_in rows) in
    let at = row_open text c.args.self.now.top families c.args.self.now.orders.items rows c.args.place id path spaces (families_in families spaces) c.requires.ready z c.requires.walked c.path_of-path.ensures exact refl in
    let none = c.are_childless.ensures.0 c.if-are_childless.true in
    row_closes text rows rows c.args.place id path spaces (Ok tt) z c.requires.walked.begun c.path_of-path.ensures exact (all_expanded text rows done path (families_in families spaces) c.requires.ready.named at none, longer_self rows)

pub families_in-requires : goal.families_in-requires
families_in-requires c = layers_below c.args.self.now.text.now c.args.self.now.top c.args.self.now.families.items c.args.self.now.orders.items c.args.paths.now (record { 0 = c.args.place - 1 }) c.as_slice-layers.result.now c.requires.ready c.requires.walked.begun (c.layers.ensures.exact ∙ ap Some (sym c.as_slice-layers.ensures))

pub add_children-requires-2-clause-open : goal.add_children-requires-2-clause-open
add_children-requires-2-clause-open c =
    let id : PathId = record { 0 = c.args.place - 1 } in
    let z : c.args.place ≡ suc (c.args.place - 1) = omega (arith, c.if-place-eq0.false) in
    let exact = c.layers.ensures.exact ∙ ap Some (sym c.as_slice-layers.ensures) in
    let p = c.path_of-path.ensures ∙ ap Some (sym c.in_ok-parent.ensures) in
    record {
      done = [] ∷ take id.0 (paths_in c.args.paths.now);
      at = row_open c.args.self.now.text.now c.args.self.now.top c.args.self.now.families.items c.args.self.now.orders.items c.args.paths.now c.args.place id c.in_ok-parent.parent c.as_slice-layers.result.now c.in_ok-families.families.items c.requires.ready z c.requires.walked p exact c.in_ok-families.ensures;
    }

pub returns : goal.returns
returns c =
    let id : PathId = record { 0 = c.args.place - 1 } in
    let z : c.args.place ≡ suc (c.args.place - 1) = omega (arith, c.if-place-eq0.false) in
    let exact = c.layers.ensures.exact ∙ ap Some (sym c.as_slice-layers.ensures) in
    let p = c.path_of-path.ensures ∙ ap Some (sym c.in_ok-parent.ensures) in
    let done = [] ∷ take id.0 (paths_in c.args.paths.now) in
    let at = row_open c.args.self.now.text.now c.args.self.now.top c.args.self.now.families.items c.args.self.now.orders.items c.args.paths.now c.args.place id c.in_ok-parent.parent c.as_slice-layers.result.now c.in_ok-families.families.items c.requires.ready z c.requires.walked p exact c.in_ok-families.ensures in
    row_closes c.args.self.now.text.now c.args.paths.now c.add_children-2.new.paths c.args.place id c.in_ok-parent.parent c.as_slice-layers.result.now c.add_children-2.result z c.requires.walked.begun p exact (c.add_children-2.ensures done at)
