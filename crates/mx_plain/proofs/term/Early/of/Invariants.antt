use Rattle.std.proofs.Common.{◌≡◌, ℕ}
use Rattle.mx_plain.specs.Months.{first}
use Rattle.mx_plain.specs.Base.{month_of}
use Rattle.mx_plain.specs.Term.{base_of, early_before}
use Rattle.mx_plain.proofs.term.Early.of.Given as goal

abbrev pub invariant-loop-t : goal.invariant-loop-t
invariant-loop-t l = (n : ℕ) → l.months ≡ first n (month_of (base_of l.policy)) → l.early ≡ early_before l.policy l.t
