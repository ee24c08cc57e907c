use Rattle.std.proofs.Common.{◌≡◌, drop}
use Rattle.mx_c3.specs.Known.{first_unknown}
use Rattle.mx_c3.proofs.linearise.first_without.Given as goal

abbrev pub invariant-loop-base : goal.invariant-loop-base
invariant-loop-base l = first_unknown l.orders (drop l.base-index l.bases) ≡ first_unknown l.orders l.bases
