use Rattle.std.proofs.Common.{arith}
use Rattle.std.proofs.lemmas.Bool.Decides.{nat_tests}
use Rattle.mx_value.specs.Rounding.{nearest}
use Rattle.mx_value.proofs.rounding.div_nearest.Goals as goal

pub returns-in-Less-clause-value : goal.returns-in-Less-clause-value
unfolding nearest
returns-in-Less-clause-value c = grind (arith, nat_tests)

pub returns-in-Equal-clause-value : goal.returns-in-Equal-clause-value
unfolding nearest
returns-in-Equal-clause-value c = grind (arith, nat_tests)

pub returns-in-Greater-clause-value : goal.returns-in-Greater-clause-value
unfolding nearest
returns-in-Greater-clause-value c = grind (arith, nat_tests)
