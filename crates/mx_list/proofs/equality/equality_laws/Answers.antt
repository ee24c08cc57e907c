use Rattle.std.specs.Cmp.Lexicographic.{pointwise_decides}
use Rattle.mx_list.proofs.equality.equality_laws.Goals as goal

pub returns : goal.returns
returns g c = λ same. pointwise_decides same
