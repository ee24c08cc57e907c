use Rattle.mx_apply.proofs.ChainLemmas.{begins, valid_goes_on}
use Rattle.mx_apply.proofs.laws.chain_laws.Goals as goal

pub returns : goal.returns
returns c = record { first = begins; valid = valid_goes_on }
