use Rattle.mx_token_laws.proofs.Refusals.{source_refuses}
use Rattle.mx_token_laws.proofs.laws.refusals_are_of_the_source.Goals as goal

pub returns : goal.returns
returns c = source_refuses
