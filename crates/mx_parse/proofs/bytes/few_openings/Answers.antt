use Rattle.mx_parse.proofs.Openings.{few_openings}
use Rattle.mx_parse.proofs.bytes.few_openings.Goals as goal

pub returns : goal.returns
returns c = few_openings
