use Rattle.std.proofs.Common.{subst}
use Rattle.mx_c3.specs.Merge.{merge, put_all, Answers}
use Rattle.mx_c3.proofs.NextLaws.{kept_by}
use Rattle.mx_c3.proofs.merge.merge.Goals as goal

pub returns-clause-exact : goal.returns-clause-exact
returns-clause-exact c =
    subst (λ lists. Answers c.merge_onto.result (merge lists)) c.in_ok-begun.ensures
    (subst (λ xs. Answers c.merge_onto.result (put_all xs (merge c.in_ok-begun.begun.items))) c.new.ensures.items c.merge_onto.ensures)

pub returns-clause-kept : goal.returns-clause-kept
returns-clause-kept c = kept_by c.merge_onto.result c.args.lists.now (returns-clause-exact c)
