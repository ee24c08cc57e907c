use Rattle.std.proofs.Common.{arith}
use Rattle.std.proofs.lemmas.Slice.Eq.{slice_eq-Decides}
use Rattle.std.proofs.lemmas.Bool.Decides.{Decides-eqb}
use Rattle.mx_cli.proofs.WordLemmas.{one_word}
use Rattle.mx_cli.proofs.top.is_run.Goals as goal

pub returns-then-len-eq1 : goal.returns-then-len-eq1
returns-then-len-eq1 c =
    one_word c.args.words.now.items c.index.result.now c.as_str.result.now _ c.eq.result (omega (arith, c.len.ensures)) c.index.ensures c.as_str.ensures.value
    (slice_eq-Decides Decides-eqb _ _ _ c.eq.ensures)
