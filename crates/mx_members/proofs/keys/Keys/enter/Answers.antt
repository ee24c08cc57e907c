use Rattle.std.proofs.Common.{◌∷◌, [], ◌++◌, ◌∙◌, sym, ap, if◌then◌else◌}
use Rattle.mx_members.proofs.MemberLemmas.{present, absent}
use Rattle.mx_members.proofs.keys.Keys.enter.Goals as goal

pub returns-in-Some-clause-ok : goal.returns-in-Some-clause-ok
returns-in-Some-clause-ok g c =
    let now = c.args.self.now in
    let k = c.args.key in
    sym (ap (λ t. if t then now else now ++ k ∷ []) (present (g.K.PartialEq.eq k) now c.in-Some.field-0 c.in-Some.ensures))

pub returns-in-None-clause-ok : goal.returns-in-None-clause-ok
returns-in-None-clause-ok g c =
    let now = c.args.self.now in
    let k = c.args.key in
    c.in_ok-push-in-None.ensures.ok ∙ sym (ap (λ t. if t then now else now ++ k ∷ []) (absent (g.K.PartialEq.eq k) now c.in-None.ensures))
