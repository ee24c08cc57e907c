use Rattle.std.proofs.Common.{◌++◌, ◌∙◌, sym, ap, subst}
use Rattle.std.specs.List.{IsDistinct}
use Rattle.mx_members.proofs.MemberLemmas.{distinct_front}
use Rattle.mx_members.proofs.keys.Keys.joined.Goals as goal

pub add_keys-requires-2 : goal.add_keys-requires-2
add_keys-requires-2 g c =
    let b = c.self.inside.base.keys in
    let m = c.self.inside.middle.keys in
    let eq = g.K.PartialEq.eq in
    let front = c.in_ok-add_keys.ensures ∙ ap (λ l. l ++ c.as_slice.result.now) c.in_ok-keys.ensures.empty ∙ c.as_slice.ensures.keys ∙ ap (λ s. s.keys) c.get-base.ensures in
    let middle = c.as_slice-2.ensures.keys ∙ ap (λ s. s.keys) c.get-middle.ensures in
    let now = ap (λ l. l ++ c.as_slice-2.result.now) front ∙ ap (λ l. b ++ l) middle in
    subst (IsDistinct eq) (sym now) (distinct_front eq (b ++ m) c.self.inside.last c.self.invariant.0)
