use Rattle.std.proofs.Common.{◌∙◌, slice_get, ap}
use Rattle.mx_members.proofs.MemberLemmas.{key_is, no_key, zip_at, zip_past}
use Rattle.mx_members.proofs.members.Members.at.Goals as goal

pub returns-in_default : goal.returns-in_default
returns-in_default g c =
    no_key (slice_get c.args.self.now c.args.place) (c.in_default.ensures ∙ key_is c.self.inside.keys c.self.inside.members c.args.self.now c.self.view_is c.self.invariant c.args.place)

pub returns-in_default-get : goal.returns-in_default-get
returns-in_default-get g c =
    zip_past c.self.inside.keys c.self.inside.members c.args.place c.in_default-get.ensures ∙ ap (λ es. slice_get es c.args.place) c.self.view_is

pub returns : goal.returns
returns g c =
    zip_at c.self.inside.keys c.self.inside.members c.args.place c.in-Some.key.now c.in-Some-get.member.now c.in-Some.ensures c.in-Some-get.ensures ∙ ap (λ es. slice_get es c.args.place) c.self.view_is
