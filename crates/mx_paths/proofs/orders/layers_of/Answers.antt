use Rattle.std.proofs.Common.{◌≡◌, ◌∙◌, ◌++◌, List, [], ◌∷◌, ap, None, Some, get_or}
use Rattle.std.proofs.lemmas.Result.{IfOk-weaker}
use Rattle.mx_c3.specs.declared.space.SpaceId.{SpaceId}
use Rattle.mx_c3.specs.Known.{known}
use Rattle.mx_c3.specs.Merge.{merge, put_all}
use Rattle.mx_model.specs.Layers.{of_children}
use Rattle.mx_paths.specs.Orders.{all_known, told, layered_by}
use Rattle.mx_paths.proofs.Matches.{match_none, match_some}
use Rattle.mx_paths.proofs.OrderSteps.{single, one_order, no_layers, children_distinct, children_merge}
use Rattle.mx_paths.proofs.orders.layers_of.Goals as goal

abbrev first : SpaceId
first = record { 0 = 0 }

pub returns-in-len1 : goal.returns-in-len1
returns-in-len1 c =
    let spaces = c.args.spaces.now in
    let s = get_or spaces 0 first in
    let is : spaces ≡ s ∷ [] = single spaces first c.in-len1.len_at_least c.in-len1.len_below in
    IfOk-weaker c.order_at.result (λ order. order ≡ known c.args.orders.now s) (λ order. layered_by order ≡ of_children c.args.text.now spaces) (λ order e.
    one_order c.args.text.now c.requires.sound c.args.orders.now c.requires.known spaces c.requires.spaces c.requires.some s order is e) c.order_at.ensures

pub returns-in_default-2 : goal.returns-in_default-2
returns-in_default-2 c =
    let spaces = c.args.spaces.now in
    let found = all_known c.args.orders.now spaces in
    let none = match_none (found ≡ None) (λ v. found ≡ Some v.items) c.in_ok-known.field-0 c.in_ok-known.ensures c.in_default-2.is in
    no_layers c.args.text.now c.requires.sound c.args.orders.now c.requires.known spaces c.requires.spaces c.requires.some none

pub merged-requires : goal.merged-requires
merged-requires c =
    let spaces = c.args.spaces.now in
    let found = all_known c.args.orders.now spaces in
    let some = match_some (found ≡ None) (λ v. found ≡ Some v.items) c.in_ok-known.field-0 c.in-Some.known c.in_ok-known.ensures c.in-Some.is in
    children_distinct c.args.text.now c.requires.sound c.args.orders.now c.requires.known spaces c.requires.spaces c.requires.some c.in-Some.known.items some

pub returns : goal.returns
returns c =
    let spaces = c.args.spaces.now in
    let found = all_known c.args.orders.now spaces in
    let some = match_some (found ≡ None) (λ v. found ≡ Some v.items) c.in_ok-known.field-0 c.in-Some.known c.in_ok-known.ensures c.in-Some.is in
    let lists = c.in-Some.known.items ++ spaces ∷ [] in
    IfOk-weaker c.merged.result (λ order. order ≡ told (put_all c.new.result.items (merge lists))) (λ order. layered_by order ≡ of_children c.args.text.now spaces) (λ order e.
    children_merge c.args.text.now c.requires.sound c.args.orders.now c.requires.known spaces c.requires.spaces c.requires.some c.in-Some.known.items order some (e ∙ ap (λ (xs : List SpaceId). told (put_all xs (merge lists))) c.new.ensures.items)) c.merged.ensures
