use Rattle.std.proofs.Common.{◌≡◌, ◌∙◌, true, false, sym}
use Rattle.mx_project.proofs.Together.{big_at}
use Rattle.mx_project.proofs.project.first_too_big.Goals as goal

pub returns-then-not-is_short : goal.returns-then-not-is_short
returns-then-not-is_short c =
    big_at c.args.all.now c.loop-file.file-index c.file-item.result c.loop-file.invariant c.loop-file-test.true c.file-item.is
    (λ s. let f : true ≡ false = sym (c.is_short.ensures.1 s) ∙ c.if-not-is_short.true in cc)
