use Rattle.std.proofs.Common.{◌≡◌, ◌∙◌, ◌++◌, List, [], ◌∷◌, ap, sym, None, Some}
use Rattle.std.specs.Prelude.{IsTrue}
use Rattle.std.proofs.lemmas.Result.{IfOk-weaker}
use Rattle.mx_c3.specs.declared.space.SpaceId.{SpaceId}
use Rattle.mx_c3.specs.Merge.{merge, put_all}
use Rattle.mx_c3.specs.Linearisation.{c3}
use Rattle.mx_c3.specs.InOrder.{AllBelow}
use Rattle.mx_model.specs.Layers.{base_lists}
use Rattle.mx_paths.specs.Orders.{all_known, told}
use Rattle.mx_paths.proofs.Matches.{match_none, match_some}
use Rattle.mx_paths.proofs.OrderSteps.{no_base_order, base_distinct, base_merge}
use Rattle.mx_paths.proofs.orders.order_of.Goals as goal

pub returns-in_default : goal.returns-in_default
returns-in_default c =
    let bases = c.as_slice-bases.result.now in
    let is = c.bases_of.ensures ∙ ap Some (sym c.as_slice-bases.ensures) in
    let found = all_known c.args.orders.now bases in
    let before : IsTrue c.are_before.result = c.if-not-are_before.false in
    let below : AllBelow c.args.space.0 bases = c.are_before.ensures.0 before in
    let none = match_none (found ≡ None) (λ v. found ≡ Some v.items) c.in_ok-known.field-0 c.in_ok-known.ensures c.in_default.is in
    sym (no_base_order c.args.text.now c.requires.sound c.args.space c.requires.space bases is c.args.orders.now c.requires.known below none)

pub merged-requires : goal.merged-requires
merged-requires c =
    let bases = c.as_slice-bases.result.now in
    let is = c.bases_of.ensures ∙ ap Some (sym c.as_slice-bases.ensures) in
    let found = all_known c.args.orders.now bases in
    let before : IsTrue c.are_before.result = c.if-not-are_before.false in
    let below : AllBelow c.args.space.0 bases = c.are_before.ensures.0 before in
    let some = match_some (found ≡ None) (λ v. found ≡ Some v.items) c.in_ok-known.field-0 c.in-Some.known c.in_ok-known.ensures c.in-Some.is in
    base_distinct c.args.text.now c.requires.sound c.args.space c.requires.space bases is c.args.orders.now c.requires.known below c.in-Some.known.items some

pub returns : goal.returns
returns c =
    let bases = c.as_slice-bases.result.now in
    let is = c.bases_of.ensures ∙ ap Some (sym c.as_slice-bases.ensures) in
    let found = all_known c.args.orders.now bases in
    let before : IsTrue c.are_before.result = c.if-not-are_before.false in
    let below : AllBelow c.args.space.0 bases = c.are_before.ensures.0 before in
    let some = match_some (found ≡ None) (λ v. found ≡ Some v.items) c.in_ok-known.field-0 c.in-Some.known c.in_ok-known.ensures c.in-Some.is in
    let begun : c.push.new.self.items ≡ c.args.space ∷ [] = c.in_ok-push.ensures.items ∙ ap (λ (xs : List SpaceId). xs ++ c.args.space ∷ []) c.in_ok-begun.ensures.items in
    let lists = c.in-Some.known.items ++ bases ∷ [] in
    IfOk-weaker c.merged.result (λ order. order ≡ told (put_all c.push.new.self.items (merge lists))) (λ order. order ≡ told (c3 (base_lists c.args.text.now) c.args.space)) (λ order e.
    base_merge c.args.text.now c.requires.sound c.args.space c.requires.space bases is c.args.orders.now c.requires.known below c.in-Some.known.items order some (e ∙ ap (λ (xs : List SpaceId). told (put_all xs (merge lists))) begun)) c.merged.ensures
