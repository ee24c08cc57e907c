use Rattle.std.proofs.Common.{arith}
use Rattle.mx_walks.proofs.Indexing.{not_one}
use Rattle.mx_walks.proofs.calls.index_in.Goals as goal

pub returns-then-len-ne1 : goal.returns-then-len-ne1
returns-then-len-ne1 c = not_one c.args.of c.args.subscripts (λ e. omega arith)
