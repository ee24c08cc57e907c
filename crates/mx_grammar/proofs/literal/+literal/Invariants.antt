use Rattle.mx_grammar.proofs.literal.+literal.Given as goal

abbrev pub decreases-literal : goal.decreases-literal
decreases-literal l = l.levels
