use Rattle.std.proofs.Common.{◌++◌, sym, subst}
use Rattle.std.specs.List.{IsDistinct}
use Rattle.std.proofs.lemmas.List.{append_assoc}
use Rattle.mx_members.proofs.MemberLemmas.{distinct_back}
use Rattle.mx_members.proofs.keys.Keys.copy.Goals as goal

pub with_last-requires : goal.with_last-requires
with_last-requires g c =
    let b = c.self.inside.base.keys in
    let m = c.self.inside.middle.keys in
    let t = c.self.inside.last in
    let eq = g.K.PartialEq.eq in
    subst (λ s. IsDistinct eq (s.keys ++ t)) (sym c.get.ensures) (distinct_back eq b (m ++ t) (subst (IsDistinct eq) (append_assoc b m t) c.self.invariant.0))
