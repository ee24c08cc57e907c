use Rattle.mx_lex.proofs.Blocks.{tokens_balanced}
use Rattle.mx_lex.proofs.laws.blocks_are_balanced.Goals as goal

pub returns : goal.returns
returns c = tokens_balanced
