use Rattle.std.proofs.Common.{◌≡◌, ◌<◌, ◌∙◌, ◌-◌, ◌++◌, set, length, sym, ap, arith}
use Rattle.std.proofs.lemmas.List.{length-append, set-append_left, set-append_right}
use Rattle.mx_members.specs.Chunks.{joined}
use Rattle.mx_members.proofs.chunks.Chunks.set.Goals as goal

pub returns-then-before-at-clause-ok : goal.returns-then-before-at-clause-ok
returns-then-before-at-clause-ok g c =
    let front = joined c.self.inside.full in
    let last = c.self.inside.last in
    let at = c.args.at in
    let before = c.self.inside.count - length c.as_slice-last.result.now in
    let count = c.self.invariant.0 in
    let own = ap (λ l. length l) c.as_slice-last.ensures in
    let is : length front ≡ before = omega (arith, length-append front last) in
    let changed = c.in_ok-self-inside.ensures ∙ ap (λ l. set l (at - before) c.args.item) (c.in_ok-items.ensures ∙ c.as_slice-last.ensures) in
    ap (λ l. front ++ l) changed ∙ sym (set-append_right front last before at c.args.item is c.if-before-at.true) ∙ ap (λ l. set l at c.args.item) c.self.view_is

pub returns-clause-ok : goal.returns-clause-ok
returns-clause-ok g c =
    let front = joined c.self.inside.full in
    let last = c.self.inside.last in
    let at = c.args.at in
    let count = c.self.invariant.0 in
    let own = ap (λ l. length l) c.as_slice-last.ensures in
    let h : at < length front = omega (arith, length-append front last) in
    let changed = ap (λ cs. joined cs) c.in_ok-self-inside-2.ensures ∙ c.in_ok-full.ensures.items ∙ ap (λ cs. set (joined cs) at c.args.item) c.as_slice.ensures in
    ap (λ l. l ++ last) changed ∙ sym (set-append_left front last at c.args.item h) ∙ ap (λ l. set l at c.args.item) c.self.view_is
