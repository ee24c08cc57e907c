use Rattle.mx_c3.proofs.LinearLemmas.{c3_step}
use Rattle.mx_c3.proofs.NextLaws.{ranks_fall}
use Rattle.mx_c3.proofs.InOrderLemmas.{in_order_sound}
use Rattle.mx_c3.proofs.laws.linearisation_laws.Goals as goal

pub returns-clause-published : goal.returns-clause-published
returns-clause-published c = λ lists s sound h. c3_step lists s sound h

pub returns-clause-ranks : goal.returns-clause-ranks
returns-clause-ranks c = ranks_fall

pub returns-clause-in_order : goal.returns-clause-in_order
returns-clause-in_order c = in_order_sound
