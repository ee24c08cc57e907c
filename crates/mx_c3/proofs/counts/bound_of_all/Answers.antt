use Rattle.std.proofs.Common.{inl, inr, ◌<◌, sym, ◌∙◌, subst, arith}
use Rattle.std.proofs.lemmas.List.{take_all}
use Rattle.mx_c3.specs.Lists.{Has, Among}
use Rattle.mx_c3.proofs.ListLemmas.{among_more}
use Rattle.mx_c3.proofs.counts.bound_of_all.Goals as goal

pub loop-list-preserved : goal.loop-list-preserved
loop-list-preserved c = λ x m.
    elim (among_more c.args.lists.now c.loop-list.list-index c.list-item.result x c.loop-list-test.true m) [
      | inl a ↦ (let b : x.0 < c.loop-list.bound = c.loop-list.invariant x a in omega (arith, c.bound_of-bound.ensures.least))
      | inr h ↦ c.bound_of-bound.ensures.above x (subst (λ xs. Has xs x) (sym (c.as_slice.ensures ∙ c.list-item.is)) h)
    ]

pub returns : goal.returns
returns c = λ x m. c.loop-list.invariant x (subst (λ lists. Among lists x) (sym (take_all c.loop-list.list-index c.args.lists.now c.loop-list-test.false)) m)
