use Rattle.mx_plain.specs.Months.{sum_of}
use Rattle.mx_plain.proofs.savings.Sums.new.Goals as goal

pub returns : goal.returns
unfolding sum_of
returns c p = λ i. record {
  pols_if = c.decimal.ensures i;
  premiums = c.decimal-2.ensures i;
  claims = c.decimal-3.ensures i;
  surrenders = c.decimal-4.ensures i;
  maturities = c.decimal-5.ensures i;
  expenses = c.decimal-6.ensures i;
  commissions = c.decimal-7.ensures i;
}
