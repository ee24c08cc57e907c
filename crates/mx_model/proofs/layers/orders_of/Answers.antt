use Rattle.std.proofs.Common.{◌≡◌, ◌∙◌, ◌<◌, List, Ok, Err, length, get_or, ap, sym, subst, arith}
use Rattle.mx_c3.specs.declared.space.SpaceId.{SpaceId}
use Rattle.mx_c3.specs.Lists.{Has}
use Rattle.mx_c3.specs.Merge.{Answers}
use Rattle.mx_c3.specs.Linearisation.{c3, each}
use Rattle.mx_c3.proofs.ListLemmas.{has_at}
use Rattle.mx_model.specs.Layers.{base_lists}
use Rattle.mx_model.specs.Sound.{IsBlockedBy}
use Rattle.mx_model.proofs.SoundLemmas.{many}
use Rattle.mx_model.proofs.LayerSteps.{one_more, stopped}
use Rattle.mx_model.proofs.layers.orders_of.Goals as goal

abbrev first : SpaceId
first = record { 0 = 0 }

pub linearise-requires-clause-space : goal.linearise-requires-clause-space
linearise-requires-clause-space c =
    let items = c.as_slice-s-items.result.now in
    let s = get_or items c.loop-s.s-index first in
    let P : List SpaceId → Type 0 = λ xs. Has xs s in
    let below : s.0 < length c.args.text.now.spaces = c.requires.below s (subst P c.as_slice-s-items.ensures (has_at items c.loop-s.s-index first c.loop-s-test.true)) in
    let long : length c.base_lists.result.now ≡ length c.args.text.now.spaces = ap length c.base_lists.ensures ∙ many c.args.text.now in
    omega arith

pub returns-in-Err : goal.returns-in-Err
returns-in-Err c =
    let items = c.as_slice-s-items.result.now in
    let s = get_or items c.loop-s.s-index first in
    let order = c3 (base_lists c.args.text.now) in
    let P : List (List SpaceId) → Type 0 = λ lists. Answers (Err c.in-Err.refusal) (c3 lists s) in
    let answer = subst P c.base_lists.ensures c.in-Err.ensures.exact in
    let Q : List SpaceId → Type 0 = λ xs. IsBlockedBy c.in-Err.refusal (each order xs) in
    subst Q c.as_slice-s-items.ensures (stopped order items c.loop-s.s-index first c.loop-s.orders.items c.in-Err.refusal c.loop-s-test.true c.loop-s.invariant answer)

pub loop-s-preserved : goal.loop-s-preserved
loop-s-preserved c =
    let items = c.as_slice-s-items.result.now in
    let s = get_or items c.loop-s.s-index first in
    let order = c3 (base_lists c.args.text.now) in
    let P : List (List SpaceId) → Type 0 = λ lists. Answers (Ok c.in-Ok.order) (c3 lists s) in
    let answer = subst P c.base_lists.ensures c.in-Ok.ensures.exact in
    one_more order items c.loop-s.s-index first c.loop-s.orders.items c.in-Ok.order c.loop-s-test.true c.loop-s.invariant answer ∙ ap Ok (sym c.in_ok-push-in-Ok.ensures.items)
