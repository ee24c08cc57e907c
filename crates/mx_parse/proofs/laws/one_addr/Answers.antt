use Rattle.mx_grammar.proofs.Languages.{addresses}
use Rattle.mx_grammar.proofs.Texts.{one_tree}
use Rattle.mx_parse.proofs.laws.one_addr.Goals as goal

pub returns : goal.returns
returns c = one_tree _ _ addresses
