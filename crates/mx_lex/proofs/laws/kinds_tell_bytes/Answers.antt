use Rattle.mx_lex.proofs.Order.{tokens_spelled}
use Rattle.mx_lex.proofs.laws.kinds_tell_bytes.Goals as goal

pub returns : goal.returns
returns c = tokens_spelled
