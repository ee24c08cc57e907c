use Rattle.mx_plain.specs.Months.{sum_of}
use Rattle.mx_plain.proofs.term.Sums.new.Goals as goal

pub returns : goal.returns
unfolding sum_of
returns c p = λ i. record { premiums = c.decimal.ensures i; expenses = c.decimal-2.ensures i; commissions = c.decimal-3.ensures i }
