use Rattle.std.proofs.Common.{◌≡◌, ◌<◌, true, false, length, get_or, sym, ap, subst, ◌∙◌}
use Rattle.mx_c3.specs.Lists.{Distinct}
use Rattle.mx_c3.specs.InOrder.{AllBelow}
use Rattle.mx_c3.proofs.InOrderLemmas.{in_order_here, in_order_more}
use Rattle.mx_c3.proofs.lists.BaseLists.is_in_order.Goals as goal

pub returns-then-not-are_below : goal.returns-then-not-are_below
returns-then-not-are_below c = (
  λ t. absurd cc,
  λ o.
      let e : c.deref-bases-items.result.now ≡ c.args.self.now = c.deref-bases-items.ensures.value ∙ (let v : c.self.inside.lists.items ≡ c.args.self.now = cc in v) in
      let i : c.as_slice.result.now ≡ get_or c.args.self.now c.loop-place.place c.bases-item.result = c.as_slice.ensures ∙ c.bases-item.is ∙ ap (λ ls. get_or ls c.loop-place.place c.bases-item.result) e in
      let l : c.loop-place.place < length c.args.self.now = subst (λ ls. c.loop-place.place < length ls) e c.loop-place-test.true in
      let t : c.are_below.result ≡ true = c.are_below.ensures.1 (subst (λ bs. AllBelow c.loop-place.place bs) (sym i) (in_order_here c.args.self.now c.loop-place.place c.bases-item.result o l).0) in
      absurd (let f : c.are_below.result ≡ false = c.if-not-are_below.true in cc),
)

pub returns-then-not-are_distinct : goal.returns-then-not-are_distinct
returns-then-not-are_distinct c = (
  λ t. absurd cc,
  λ o.
      let e : c.deref-bases-items.result.now ≡ c.args.self.now = c.deref-bases-items.ensures.value ∙ (let v : c.self.inside.lists.items ≡ c.args.self.now = cc in v) in
      let i : c.as_slice-in-loop-place.result.now ≡ get_or c.args.self.now c.loop-place.place c.bases-item.result = c.as_slice-in-loop-place.ensures ∙ c.bases-item.is ∙ ap (λ ls. get_or ls c.loop-place.place c.bases-item.result) e in
      let l : c.loop-place.place < length c.args.self.now = subst (λ ls. c.loop-place.place < length ls) e c.loop-place-test.true in
      let t : c.are_distinct.result ≡ true = c.are_distinct.ensures.1 (subst (λ bs. Distinct bs) (sym i) (in_order_here c.args.self.now c.loop-place.place c.bases-item.result o l).1) in
      absurd (let f : c.are_distinct.result ≡ false = c.if-not-are_distinct.true in cc),
)

pub loop-place-preserved : goal.loop-place-preserved
loop-place-preserved c =
    let e : c.deref-bases-items.result.now ≡ c.args.self.now = c.deref-bases-items.ensures.value ∙ (let v : c.self.inside.lists.items ≡ c.args.self.now = cc in v) in
    let i : c.as_slice.result.now ≡ get_or c.args.self.now c.loop-place.place c.bases-item.result = c.as_slice.ensures ∙ c.bases-item.is ∙ ap (λ ls. get_or ls c.loop-place.place c.bases-item.result) e in
    let j : c.as_slice-in-loop-place.result.now ≡ get_or c.args.self.now c.loop-place.place c.bases-item.result = c.as_slice-in-loop-place.ensures ∙ c.bases-item.is ∙ ap (λ ls. get_or ls c.loop-place.place c.bases-item.result) e in
    let l : c.loop-place.place < length c.args.self.now = subst (λ ls. c.loop-place.place < length ls) e c.loop-place-test.true in
    in_order_more c.args.self.now c.loop-place.place c.bases-item.result l c.loop-place.invariant (subst (λ bs. AllBelow c.loop-place.place bs) i (c.are_below.ensures.0 c.if-not-are_below.false)) (subst (λ bs. Distinct bs) j (c.are_distinct.ensures.0 c.if-not-are_distinct.false))
