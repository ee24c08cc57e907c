use Rattle.mx_grammar.proofs.Languages.{nodes}
use Rattle.mx_grammar.proofs.Texts.{one_tree}
use Rattle.mx_parse.proofs.laws.one_node.Goals as goal

pub returns : goal.returns
returns c = one_tree _ _ nodes
