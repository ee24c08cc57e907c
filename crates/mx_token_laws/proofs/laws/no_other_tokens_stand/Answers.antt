use Rattle.mx_token_laws.proofs.Whole.{tokens_are}
use Rattle.mx_token_laws.proofs.laws.no_other_tokens_stand.Goals as goal

pub returns : goal.returns
returns c = tokens_are
