use Rattle.std.proofs.Common.{◌≡◌}
use Rattle.mx_plain.specs.Months.{first}
use Rattle.mx_plain.specs.Base.{base, opening_of, month_of}
use Rattle.mx_plain.proofs.base.months.Given as goal

abbrev pub invariant-loop-t : goal.invariant-loop-t
invariant-loop-t l = record {
  months : l.months.items ≡ first l.t (month_of (base l.basis l.mort l.disc));
  opening : l.opening ≡ opening_of (base l.basis l.mort l.disc) l.t;
}
