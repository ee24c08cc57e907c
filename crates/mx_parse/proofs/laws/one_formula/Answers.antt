use Rattle.mx_grammar.proofs.Texts.{one_tree}
use Rattle.mx_parse.proofs.Languages.{formulas}
use Rattle.mx_parse.proofs.laws.one_formula.Goals as goal

pub returns : goal.returns
returns c = one_tree _ _ formulas
