use Rattle.mx_c3.proofs.NextLaws.{takes_next, merges_in_turn, blocks_in_turn}
use Rattle.mx_c3.proofs.laws.merge_laws.Goals as goal

pub returns-clause-next : goal.returns-clause-next
returns-clause-next c = takes_next

pub returns-clause-order : goal.returns-clause-order
returns-clause-order c = merges_in_turn

pub returns-clause-blocked : goal.returns-clause-blocked
returns-clause-blocked c = blocks_in_turn
