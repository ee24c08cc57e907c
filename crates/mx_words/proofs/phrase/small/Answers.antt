use Rattle.std.proofs.Common.{FitsSigned, to_z-of_z}
use Rattle.std.specs.Int.{w64}
use Rattle.mx_words.proofs.PhraseCode.{small_misses}
use Rattle.mx_words.proofs.phrase.small.Goals as goal

pub returns-in-Err : goal.returns-in-Err
returns-in-Err c =
    let f : FitsSigned w64 c.args.n = c.ranges.n in
    small_misses c.args.n (simp to_z-of_z at c.in-Err.ensures)
