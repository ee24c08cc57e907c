use Rattle.mx_expression.proofs.expression.+or.Given as goal

abbrev pub decreases-or : goal.decreases-or
decreases-or l = l.levels
