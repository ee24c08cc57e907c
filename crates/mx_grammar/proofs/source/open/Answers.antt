use Rattle.std.proofs.Common.{◌≡◌, sym, ◌∙◌, ap, subst, length, arith, All}
use Rattle.std.proofs.lemmas.List.{length-map}
use Rattle.mx_grammar.specs.Words.{IsReadable, word_of}
use Rattle.mx_grammar.proofs.Decimals.{readable}
use Rattle.mx_grammar.proofs.OpenCount.{deep_within}
use Rattle.mx_grammar.specs.Spelling.{unopened}
use Rattle.mx_grammar.proofs.source.open.Goals as goal

pub words-requires : goal.words-requires
words-requires c = subst (All (IsReadable c.args.source.now)) (sym c.as_slice.ensures) (readable c.args.source.now c.in_ok-tokens.tokens c.in_ok-tokens.ensures.tokens)

pub place-requires-clause-some : goal.place-requires-clause-some
place-requires-clause-some c = (deep_within 64 unopened c.as_slice-2.result.now c.in-Some.left c.in-Some.ensures).0

pub place-requires-clause-within : goal.place-requires-clause-within
place-requires-clause-within c =
    let deep = (deep_within 64 unopened c.as_slice-2.result.now c.in-Some.left c.in-Some.ensures).1 in
    let long : length c.as_slice-2.result.now ≡ length c.as_slice-in-Some.result.now = ap length (c.as_slice-2.ensures ∙ c.in_ok-words.ensures) ∙ length-map c.as_slice.result.now (word_of c.args.source.now) ∙ ap length (c.as_slice.ensures ∙ sym c.as_slice-in-Some.ensures) in
    omega (arith, deep, long)
