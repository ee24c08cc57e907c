use Rattle.std.proofs.Common.{rules, arith}
use Rattle.mx_parse.proofs.ListedLoops.{listed, then_listed, listed_not}
use Rattle.mx_parse.proofs.FormulaLoops.{item_is, if_is, if_some_is, if_none_is, for_is, arm_is, lists, list_alone, loop_body}
use Rattle.mx_parse.proofs.loops.+loops.Goals as goal

pub arm_within-returns : goal.arm_within-returns
arm_within-returns t c = then_listed _ _ _ _ _ (arm_is c.args.arm.now) (search rules) (search rules)

pub statement_within-returns-then-not-arms_within : goal.statement_within-returns-then-not-arms_within
statement_within-returns-then-not-arms_within t c = listed_not _ _ _ _ (if_is _ _ c.in-If.other c.in-If.is).1 (search rules)

pub statement_within-returns-in-ReturnItem : goal.statement_within-returns-in-ReturnItem
statement_within-returns-in-ReturnItem t c = listed _ _ _ _ (item_is _ _ c.in-ReturnItem.is) (search rules)

pub statement_within-returns-in-Some : goal.statement_within-returns-in-Some
statement_within-returns-in-Some t c = lists _ _ _ _ _ (if_some_is _ _ _ _ c.in-If.is c.in-Some.is) (search rules) (search rules)

pub statement_within-returns-in-None : goal.statement_within-returns-in-None
statement_within-returns-in-None t c = list_alone _ _ _ (if_none_is _ _ _ c.in-If.is c.in-None.is) (search rules)

pub statement_within-returns-else-not-expression_within : goal.statement_within-returns-else-not-expression_within
statement_within-returns-else-not-expression_within t c = loop_body _ _ _ _ _ (for_is _ _ _ _ c.in-For.is) (omega arith) (search rules) (search rules)
