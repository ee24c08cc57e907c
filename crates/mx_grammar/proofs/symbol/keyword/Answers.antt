use Rattle.std.proofs.Common.{rules, arith, ◌≡◌, refl}
use Rattle.std.specs.Prelude.{codes}
use Rattle.std.proofs.lemmas.Slice.Eq.{text_from_reads}
use Rattle.mx_grammar.proofs.symbol.keyword.Goals as goal

pub returns-in-return : goal.returns-in-return
returns-in-return c =
    let same : c.args.word.now ≡ codes "return" = text_from_reads c.args.word.now (codes "return") (omega arith) (search rules) in
    rw same refl
