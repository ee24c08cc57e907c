use Rattle.mx_print.proofs.nodes.+push_decimals.Given as goal

abbrev pub decreases-push_decimals : goal.decreases-push_decimals
decreases-push_decimals g l = l.digits
