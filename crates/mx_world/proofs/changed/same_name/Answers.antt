use Rattle.std.proofs.Common.{ap}
use Rattle.mx_world.specs.Bound.{told_name}
use Rattle.mx_world.proofs.SameLemmas.{same_references, other_references}
use Rattle.mx_world.proofs.changed.same_name.Goals as goal

pub returns-then-eq : goal.returns-then-eq
returns-then-eq c =
    let one = c.in-Ref-Ref.one in
    let other = c.in-Ref-Ref.other in
    same_references one.value.now other.value.now one.owner.now other.owner.now c.eq.result c.eq-then-eq.result (told_name c.args.one) (told_name c.args.other) c.eq.ensures c.if-eq.true c.eq-then-eq.ensures (ap told_name c.in-Ref-Ref.is-0) (ap told_name c.in-Ref-Ref.is-1)

pub returns-else-eq : goal.returns-else-eq
returns-else-eq c =
    let one = c.in-Ref-Ref.one in
    let other = c.in-Ref-Ref.other in
    other_references one.value.now other.value.now one.owner.now other.owner.now c.eq.result (told_name c.args.one) (told_name c.args.other) c.eq.ensures c.if-eq.false (ap told_name c.in-Ref-Ref.is-0) (ap told_name c.in-Ref-Ref.is-1)
