use Rattle.std.proofs.Common.{◌∙◌}
use Rattle.mx_members.proofs.MemberLemmas.{key_is}
use Rattle.mx_members.proofs.members.Members.key_at.Goals as goal

pub returns : goal.returns
returns g c = c.get.ensures ∙ key_is c.self.inside.keys c.self.inside.members c.args.self.now c.self.view_is c.self.invariant c.args.place
