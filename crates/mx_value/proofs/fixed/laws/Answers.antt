use Rattle.mx_value.proofs.DecimalLaws.{add-commutes, add-zero, add-rises, root-brackets, div-mul}
use Rattle.mx_value.proofs.fixed.laws.Goals as goal

pub returns-clause-add_commutes : goal.returns-clause-add_commutes
returns-clause-add_commutes c = add-commutes

pub returns-clause-add_zero : goal.returns-clause-add_zero
returns-clause-add_zero c = add-zero

pub returns-clause-add_keeps_order : goal.returns-clause-add_keeps_order
returns-clause-add_keeps_order c = add-rises

pub returns-clause-root_brackets : goal.returns-clause-root_brackets
returns-clause-root_brackets c = root-brackets

pub returns-clause-quotient_then_product : goal.returns-clause-quotient_then_product
returns-clause-quotient_then_product c = div-mul
