use Rattle.std.proofs.Common.{◌≡◌, ◌<◌, ◌++◌, ◌∷◌, [], length, Some, None, Ok, Err, sym, ap, subst, ◌∙◌, arith}
use Rattle.std.proofs.lemmas.Option.{get_or_from_slice_get}
use Rattle.std.proofs.lemmas.Result.{err_from_is_err_and}
use Rattle.mx_c3.specs.Lists.{AllDistinct}
use Rattle.mx_c3.specs.Merge.{put, merge, Answers}
use Rattle.mx_c3.specs.Known.{known, first_unknown, orders_of}
use Rattle.mx_c3.specs.Linearisation.{bases_of, c3}
use Rattle.mx_c3.proofs.LinearLaws.{c3_order}
use Rattle.mx_c3.proofs.Working.{top_in_range, push_step, push_less, top_made, done_step, done_less, blocked_step, all_distinct, pass_on}
use Rattle.mx_c3.proofs.linearise.linearise.Goals as goal

pub bases-bases-requires : goal.bases-bases-requires
bases-bases-requires c =
    top_in_range c.args.lists.now c.requires.sound c.args.space c.loop-top.orders.items c.loop-top.pending.items c.pop.new.self.items c.in-Some.top c.loop-top.invariant c.in-Some.ensures.items

pub loop-top-smaller-in_ok-push-3 : goal.loop-top-smaller-in_ok-push-3
loop-top-smaller-in_ok-push-3 c =
    let b : bases_of c.args.lists.now c.in-Some.top ≡ c.bases-bases.result.now = get_or_from_slice_get c.args.lists.now c.in-Some.top.0 c.bases-bases.result.now [] c.bases-bases.ensures in
    let n : first_unknown c.loop-top.orders.items (bases_of c.args.lists.now c.in-Some.top) ≡ Some c.in-Some-first_without.base =
    ap (λ os. first_unknown os (bases_of c.args.lists.now c.in-Some.top)) (sym c.deref.ensures.value) ∙ ap (first_unknown c.deref.result.now) (b ∙ sym c.as_slice.ensures) ∙ sym c.in-Some-first_without.ensures in
    let f : c.push-in-Some-first_without-2.new.self.items ≡ (c.pop.new.self.items ++ c.in-Some.top ∷ []) ++ c.in-Some-first_without.base ∷ [] = c.in_ok-push-3.ensures.items ∙ ap (λ xs. xs ++ c.in-Some-first_without.base ∷ []) c.in_ok-push-2.ensures.items in
    push_less c.args.lists.now c.requires.sound c.args.space c.loop-top.orders.items c.loop-top.pending.items c.pop.new.self.items c.push-in-Some-first_without-2.new.self.items c.in-Some.top c.in-Some-first_without.base c.in-Some.ensures.items f
    (push_step c.args.lists.now c.requires.sound c.args.space c.loop-top.orders.items c.loop-top.pending.items c.pop.new.self.items c.push-in-Some-first_without-2.new.self.items c.in-Some.top c.in-Some-first_without.base c.loop-top.invariant c.in-Some.ensures.items f n)

pub loop-top-preserved-in_ok-push-3 : goal.loop-top-preserved-in_ok-push-3
loop-top-preserved-in_ok-push-3 c =
    let b : bases_of c.args.lists.now c.in-Some.top ≡ c.bases-bases.result.now = get_or_from_slice_get c.args.lists.now c.in-Some.top.0 c.bases-bases.result.now [] c.bases-bases.ensures in
    let n : first_unknown c.loop-top.orders.items (bases_of c.args.lists.now c.in-Some.top) ≡ Some c.in-Some-first_without.base =
    ap (λ os. first_unknown os (bases_of c.args.lists.now c.in-Some.top)) (sym c.deref.ensures.value) ∙ ap (first_unknown c.deref.result.now) (b ∙ sym c.as_slice.ensures) ∙ sym c.in-Some-first_without.ensures in
    let f : c.push-in-Some-first_without-2.new.self.items ≡ (c.pop.new.self.items ++ c.in-Some.top ∷ []) ++ c.in-Some-first_without.base ∷ [] = c.in_ok-push-3.ensures.items ∙ ap (λ xs. xs ++ c.in-Some-first_without.base ∷ []) c.in_ok-push-2.ensures.items in
    push_step c.args.lists.now c.requires.sound c.args.space c.loop-top.orders.items c.loop-top.pending.items c.pop.new.self.items c.push-in-Some-first_without-2.new.self.items c.in-Some.top c.in-Some-first_without.base c.loop-top.invariant c.in-Some.ensures.items f n

pub order_from-requires : goal.order_from-requires
order_from-requires c =
    let b : bases_of c.args.lists.now c.in-Some.top ≡ c.bases-bases.result.now = get_or_from_slice_get c.args.lists.now c.in-Some.top.0 c.bases-bases.result.now [] c.bases-bases.ensures in
    subst (λ bs. AllDistinct (orders_of c.deref-in_default-first_without.result.now bs ++ bs ∷ [])) b
    (subst (λ os. AllDistinct (orders_of os (bases_of c.args.lists.now c.in-Some.top) ++ bases_of c.args.lists.now c.in-Some.top ∷ [])) (sym c.deref-in_default-first_without.ensures.value)
    (all_distinct c.args.lists.now c.requires.sound c.args.space c.loop-top.orders.items c.in-Some.top c.loop-top.invariant.right))

pub returns-in_err-order-clause-exact : goal.returns-in_err-order-clause-exact
returns-in_err-order-clause-exact c =
    let b : bases_of c.args.lists.now c.in-Some.top ≡ c.bases-bases.result.now = get_or_from_slice_get c.args.lists.now c.in-Some.top.0 c.bases-bases.result.now [] c.bases-bases.ensures in
    let n : first_unknown c.loop-top.orders.items (bases_of c.args.lists.now c.in-Some.top) ≡ None =
    ap (λ os. first_unknown os (bases_of c.args.lists.now c.in-Some.top)) (sym c.deref.ensures.value) ∙ ap (first_unknown c.deref.result.now) (b ∙ sym c.as_slice.ensures) ∙ sym c.first_without.ensures ∙ c.in_default-first_without.is in
    let m : c3 c.args.lists.now c.in-Some.top ≡ put c.in-Some.top (merge (orders_of c.deref-in_default-first_without.result.now c.bases-bases.result.now ++ c.bases-bases.result.now ∷ [])) =
    top_made c.args.lists.now c.requires.sound c.args.space c.loop-top.orders.items c.loop-top.pending.items c.pop.new.self.items c.in-Some.top c.loop-top.invariant c.in-Some.ensures.items n
    ∙ ap (λ os. put c.in-Some.top (merge (orders_of os (bases_of c.args.lists.now c.in-Some.top) ++ bases_of c.args.lists.now c.in-Some.top ∷ []))) (sym c.deref-in_default-first_without.ensures.value)
    ∙ ap (λ bs. put c.in-Some.top (merge (orders_of c.deref-in_default-first_without.result.now bs ++ bs ∷ []))) b in
    let p = err_from_is_err_and c.from_residual-in_err-order.result c.from_residual-in_err-order.ensures.1 in
    let a : Answers (Err p.0) (put c.in-Some.top (merge (orders_of c.deref-in_default-first_without.result.now c.bases-bases.result.now ++ c.bases-bases.result.now ∷ []))) =
    subst (λ e. Answers (Err e) (put c.in-Some.top (merge (orders_of c.deref-in_default-first_without.result.now c.bases-bases.result.now ++ c.bases-bases.result.now ∷ [])))) (sym p.2) c.in_err-order.ensures in
    subst (λ r. Answers r (c3 c.args.lists.now c.args.space)) (sym p.1)
    (pass_on p.0 (put c.in-Some.top (merge (orders_of c.deref-in_default-first_without.result.now c.bases-bases.result.now ++ c.bases-bases.result.now ∷ []))) (c3 c.args.lists.now c.args.space)
    (λ blocked e. blocked_step c.args.lists.now c.requires.sound c.args.space c.loop-top.orders.items c.loop-top.pending.items c.pop.new.self.items c.in-Some.top blocked c.loop-top.invariant c.in-Some.ensures.items (m ∙ e)) a)

pub index_mut-requires : goal.index_mut-requires
index_mut-requires c =
    let h : c.in-Some.top.0 < length c.args.lists.now = top_in_range c.args.lists.now c.requires.sound c.args.space c.loop-top.orders.items c.loop-top.pending.items c.pop.new.self.items c.in-Some.top c.loop-top.invariant c.in-Some.ensures.items in
    omega (arith, c.loop-top.invariant.long)

pub loop-top-smaller-in_ok-order : goal.loop-top-smaller-in_ok-order
loop-top-smaller-in_ok-order c =
    done_less c.args.lists.now c.requires.sound c.args.space c.loop-top.orders.items c.loop-top.pending.items c.pop.new.self.items c.in-Some.top c.in_ok-order.order c.loop-top.invariant c.in-Some.ensures.items

pub loop-top-preserved-in_ok-order : goal.loop-top-preserved-in_ok-order
loop-top-preserved-in_ok-order c =
    let b : bases_of c.args.lists.now c.in-Some.top ≡ c.bases-bases.result.now = get_or_from_slice_get c.args.lists.now c.in-Some.top.0 c.bases-bases.result.now [] c.bases-bases.ensures in
    let n : first_unknown c.loop-top.orders.items (bases_of c.args.lists.now c.in-Some.top) ≡ None =
    ap (λ os. first_unknown os (bases_of c.args.lists.now c.in-Some.top)) (sym c.deref.ensures.value) ∙ ap (first_unknown c.deref.result.now) (b ∙ sym c.as_slice.ensures) ∙ sym c.first_without.ensures ∙ c.in_default-first_without.is in
    let m : c3 c.args.lists.now c.in-Some.top ≡ Ok c.in_ok-order.order =
    top_made c.args.lists.now c.requires.sound c.args.space c.loop-top.orders.items c.loop-top.pending.items c.pop.new.self.items c.in-Some.top c.loop-top.invariant c.in-Some.ensures.items n
    ∙ ap (λ os. put c.in-Some.top (merge (orders_of os (bases_of c.args.lists.now c.in-Some.top) ++ bases_of c.args.lists.now c.in-Some.top ∷ []))) (sym c.deref-in_default-first_without.ensures.value)
    ∙ ap (λ bs. put c.in-Some.top (merge (orders_of c.deref-in_default-first_without.result.now bs ++ bs ∷ []))) b
    ∙ c.in_ok-order.ensures in
    done_step c.args.lists.now c.requires.sound c.args.space c.loop-top.orders.items c.loop-top.pending.items c.pop.new.self.items c.in-Some.top c.in_ok-order.order c.loop-top.invariant c.in-Some.ensures.items m

pub loop-top-smaller : goal.loop-top-smaller
loop-top-smaller c =
    done_less c.args.lists.now c.requires.sound c.args.space c.loop-top.orders.items c.loop-top.pending.items c.pop.new.self.items c.in-Some.top c.in_ok-order.order c.loop-top.invariant c.in-Some.ensures.items

pub loop-top-preserved : goal.loop-top-preserved
loop-top-preserved c =
    let b : bases_of c.args.lists.now c.in-Some.top ≡ c.bases-bases.result.now = get_or_from_slice_get c.args.lists.now c.in-Some.top.0 c.bases-bases.result.now [] c.bases-bases.ensures in
    let n : first_unknown c.loop-top.orders.items (bases_of c.args.lists.now c.in-Some.top) ≡ None =
    ap (λ os. first_unknown os (bases_of c.args.lists.now c.in-Some.top)) (sym c.deref.ensures.value) ∙ ap (first_unknown c.deref.result.now) (b ∙ sym c.as_slice.ensures) ∙ sym c.first_without.ensures ∙ c.in_default-first_without.is in
    let m : c3 c.args.lists.now c.in-Some.top ≡ Ok c.in_ok-order.order =
    top_made c.args.lists.now c.requires.sound c.args.space c.loop-top.orders.items c.loop-top.pending.items c.pop.new.self.items c.in-Some.top c.loop-top.invariant c.in-Some.ensures.items n
    ∙ ap (λ os. put c.in-Some.top (merge (orders_of os (bases_of c.args.lists.now c.in-Some.top) ++ bases_of c.args.lists.now c.in-Some.top ∷ []))) (sym c.deref-in_default-first_without.ensures.value)
    ∙ ap (λ bs. put c.in-Some.top (merge (orders_of c.deref-in_default-first_without.result.now bs ++ bs ∷ []))) b
    ∙ c.in_ok-order.ensures in
    done_step c.args.lists.now c.requires.sound c.args.space c.loop-top.orders.items c.loop-top.pending.items c.pop.new.self.items c.in-Some.top c.in_ok-order.order c.loop-top.invariant c.in-Some.ensures.items m

pub returns-clause-order : goal.returns-clause-order
returns-clause-order c =
    let k : known c.loop-top.orders.items c.args.space ≡ Some c.in-Some-order_at.order.now = ap (λ os. known os c.args.space) (sym c.deref-2.ensures.value) ∙ c.in-Some-order_at.ensures in
    c3_order c.args.lists.now c.requires.sound c.args.space c.in_ok-copy.field-0 c.requires.space
    (c.loop-top.invariant.right c.args.space c.in-Some-order_at.order.now k ∙ ap Ok (sym c.in_ok-copy.ensures))
