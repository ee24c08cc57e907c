use Rattle.mx_grammar.proofs.Texts.{one_tree}
use Rattle.mx_parse.proofs.Languages.{space_parameters}
use Rattle.mx_parse.proofs.laws.one_params.Goals as goal

pub returns : goal.returns
returns c = one_tree _ _ space_parameters
