use Rattle.std.proofs.Common.{Some, None, ◌∙◌}
use Rattle.mx_members.proofs.MemberLemmas.{found}
use Rattle.mx_members.proofs.members.Members.get_by.Goals as goal

pub returns-in-Some : goal.returns-in-Some
returns-in-Some g c =
    c.get.ensures ∙ found c.self.inside.keys c.self.inside.members c.args.self.now c.self.view_is c.self.invariant (g.K.PartialEq.eq c.args.key.now.now) (Some c.in-Some.at) c.in-Some.ensures

pub returns-in-None : goal.returns-in-None
returns-in-None g c =
    found c.self.inside.keys c.self.inside.members c.args.self.now c.self.view_is c.self.invariant (g.K.PartialEq.eq c.args.key.now.now) None c.in-None.ensures
