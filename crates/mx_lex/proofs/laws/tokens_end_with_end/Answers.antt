use Rattle.mx_lex.proofs.Order.{tokens_end}
use Rattle.mx_lex.proofs.laws.tokens_end_with_end.Goals as goal

pub returns : goal.returns
returns c = tokens_end
