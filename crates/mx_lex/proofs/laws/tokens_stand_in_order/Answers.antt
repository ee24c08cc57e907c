use Rattle.mx_lex.proofs.Order.{tokens_in_order}
use Rattle.mx_lex.proofs.laws.tokens_stand_in_order.Goals as goal

pub returns : goal.returns
returns c = tokens_in_order
