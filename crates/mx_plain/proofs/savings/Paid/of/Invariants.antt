use Rattle.std.proofs.Common.{◌≡◌, ℕ}
use Rattle.mx_plain.specs.Months.{first}
use Rattle.mx_plain.specs.Figures.{value}
use Rattle.mx_plain.specs.Base.{month_of}
use Rattle.mx_plain.specs.Outcome.{AreRows}
use Rattle.mx_plain.specs.Savings.{base_of, av_pp, row, sums_before}
use Rattle.mx_plain.proofs.savings.Paid.of.Given as goal

abbrev pub invariant-loop-t : goal.invariant-loop-t
invariant-loop-t l =
    (n : ℕ) → l.months ≡ first n (month_of (base_of l.policy)) → AreRows l.t (row l.policy) l.rows × (l.sums ≡ sums_before l.policy l.t) × (l.av_pp ≡ value (av_pp l.policy l.t))
