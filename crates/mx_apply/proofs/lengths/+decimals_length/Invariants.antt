use Rattle.mx_apply.proofs.lengths.+decimals_length.Given as goal

abbrev pub decreases-decimals_length : goal.decreases-decimals_length
decreases-decimals_length l = l.digits
