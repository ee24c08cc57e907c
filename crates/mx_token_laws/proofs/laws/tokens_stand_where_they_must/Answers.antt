use Rattle.mx_token_laws.proofs.Reading.{tokens_stand}
use Rattle.mx_token_laws.proofs.laws.tokens_stand_where_they_must.Goals as goal

pub returns : goal.returns
returns c = tokens_stand
