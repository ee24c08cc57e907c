use Rattle.std.proofs.Common.{rules}
use Rattle.mx_syntax.specs.declared.stmt.Stmt.TheFolds.{the_lemmas}
use Rattle.mx_apply.proofs.DisplayLemmas.{any_stmt, any_arms}
use Rattle.mx_apply.proofs.displays.+displays.Goals as goal

pub arm_display-returns : goal.arm_display-returns
arm_display-returns t c = let e = any_stmt c.args.arm.now.body in search (the_lemmas, rules, e)

pub has_display-returns-then-any_arm : goal.has_display-returns-then-any_arm
has_display-returns-then-any_arm t c = let e = any_arms c.in-If.arms in search (the_lemmas, rules, e)

pub has_display-returns-else-any_arm : goal.has_display-returns-else-any_arm
has_display-returns-else-any_arm t c =
    let e = any_arms c.in-If.arms in
    let f = any_stmt c.in-Some.body in
    search (the_lemmas, rules, e, f)

pub has_display-returns-in-None : goal.has_display-returns-in-None
has_display-returns-in-None t c = let e = any_arms c.in-If.arms in search (the_lemmas, rules, e)

pub has_display-returns-in-For : goal.has_display-returns-in-For
has_display-returns-in-For t c = let e = any_stmt c.in-For.body in search (the_lemmas, rules, e)
