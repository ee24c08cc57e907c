use Rattle.mx_parse.proofs.block.+block.Given as goal

abbrev pub decreases-block : goal.decreases-block
decreases-block l = l.levels
