use Rattle.mx_print.proofs.nodes.+push_padded.Given as goal

abbrev pub decreases-push_padded : goal.decreases-push_padded
decreases-push_padded g l = l.digits
