use Rattle.std.proofs.Common.{sym, subst}
use Rattle.mx_c3.specs.Lists.{Has, Distinct}
use Rattle.mx_c3.proofs.ListLemmas.{has_tail, distinct_tail}
use Rattle.mx_c3.proofs.CountLemmas.{tail_is}
use Rattle.mx_c3.proofs.counts.count_tail.Goals as goal

pub count_all-requires-clause-distinct : goal.count_all-requires-clause-distinct
count_all-requires-clause-distinct c = subst (λ xs. Distinct xs) (sym (tail_is c.args.spaces.now c.in-len1-up.len_at_least)) (distinct_tail c.args.spaces.now c.requires.distinct)

pub count_all-requires-clause-room : goal.count_all-requires-clause-room
count_all-requires-clause-room c = λ x h. c.requires.room x (has_tail c.args.spaces.now x (subst (λ xs. Has xs x) (tail_is c.args.spaces.now c.in-len1-up.len_at_least) h))
