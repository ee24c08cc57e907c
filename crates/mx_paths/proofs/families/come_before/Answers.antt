use Rattle.std.proofs.Common.{length, sym, ◌∙◌, arith}
use Rattle.std.proofs.lemmas.Bool.{ltb-true, lt-ltb}
use Rattle.mx_paths.proofs.Bytes.{ended}
use Rattle.mx_paths.proofs.families.come_before.Goals as goal

pub returns : goal.returns
returns c =
    let e = ended c.args.a.now c.args.b.now c.loop-at.at (omega (arith, c.min-at-end.ensures)) (omega (arith, c.min-at-end.ensures)) (λ h k. absurd (omega (arith, c.min-at-end.ensures))) in
    (λ t. sym c.loop-at.invariant ∙ e.0 (ltb-true (length c.args.a.now) (length c.args.b.now) t), λ f. lt-ltb (length c.args.a.now) (length c.args.b.now) (e.1 (c.loop-at.invariant ∙ f)))
