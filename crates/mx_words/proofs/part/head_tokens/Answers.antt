use Rattle.std.proofs.Common.{sym, subst, All}
use Rattle.mx_grammar.specs.Words.{IsReadable}
use Rattle.mx_grammar.proofs.Decimals.{readable}
use Rattle.mx_words.proofs.part.head_tokens.Goals as goal

pub words-requires : goal.words-requires
words-requires c = subst (All (IsReadable c.args.head.now)) (sym c.as_slice.ensures) (readable c.args.head.now c.in_ok-tokens.tokens c.in_ok-tokens.ensures.tokens)
