use Rattle.std.proofs.Common.{◌++◌, get_or, drop, ap, subst, ◌∙◌, arith}
use Rattle.std.proofs.lemmas.List.{take_all, drop_all, append-nil}
use Rattle.mx_c3.specs.Lists.{Has}
use Rattle.mx_c3.specs.Taking.{drop_heads}
use Rattle.mx_c3.proofs.CountLemmas.{can_take, counted_step, has_drop_head}
use Rattle.mx_c3.proofs.MergeLemmas.{taken_step, drop_heads_is}
use Rattle.mx_c3.proofs.merge.take.Goals as goal

pub take_head-requires : goal.take_head-requires
take_head-requires c = can_take c.loop-i.rest c.loop-i.counts c.loop-i.i c.index-rest-i.result (omega arith) c.loop-i.invariant.counted

pub loop-i-preserved : goal.loop-i-preserved
loop-i-preserved c = record {
  removed = taken_step c.args.space c.args.rest.now c.loop-i.rest c.loop-i.i c.index-rest-i.result c.take_head.new.list (omega arith) c.loop-i.invariant.removed c.take_head.ensures.list;
  counted = counted_step c.loop-i.rest c.loop-i.counts c.take_head.new.counts c.loop-i.i c.index-rest-i.result c.take_head.new.list (omega arith) c.loop-i.invariant.counted
      (λ x h. has_drop_head c.args.space (get_or c.loop-i.rest c.loop-i.i c.index-rest-i.result) x (subst (λ xs. Has xs x) c.take_head.ensures.list h)) c.take_head.ensures.counted;
}

pub returns-clause-removed : goal.returns-clause-removed
returns-clause-removed c =
    c.loop-i.invariant.removed ∙ ap (λ xs. drop_heads c.args.space xs ++ drop c.loop-i.i c.args.rest.now) (take_all c.loop-i.i c.args.rest.now (omega arith)) ∙ ap (λ xs. drop_heads c.args.space c.args.rest.now ++ xs) (drop_all c.loop-i.i c.args.rest.now (omega arith)) ∙ append-nil (drop_heads c.args.space c.args.rest.now) ∙ drop_heads_is c.args.space c.args.rest.now c.requires.free
