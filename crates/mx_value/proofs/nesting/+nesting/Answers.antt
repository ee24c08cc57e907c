use Rattle.std.proofs.Common.{arith}
use Rattle.std.proofs.lemmas.Grind.{common_steps}
use Rattle.mx_value.proofs.Trees.{greatest-push}
use Rattle.mx_value.proofs.nesting.+nesting.Goals as goal

pub greatest_nesting-loop-item-preserved : goal.greatest_nesting-loop-item-preserved
greatest_nesting-loop-item-preserved t c = grind (arith, common_steps, greatest-push)
