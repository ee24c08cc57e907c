use Rattle.std.proofs.Common.{◌∙◌, sym, subst}
use Rattle.std.specs.List.{IsDistinct}
use Rattle.mx_members.proofs.MemberLemmas.{keys_are, count_is}
use Rattle.mx_members.proofs.members.Members.count.Goals as goal

pub returns-clause-all : goal.returns-clause-all
returns-clause-all g c = c.len.ensures.all ∙ sym c.self.invariant ∙ count_is c.self.inside.keys c.self.inside.members c.args.self.now c.self.view_is c.self.invariant

pub returns-clause-distinct : goal.returns-clause-distinct
returns-clause-distinct g c =
    subst (IsDistinct g.K.PartialEq.eq) (keys_are c.self.inside.keys c.self.inside.members c.args.self.now c.self.view_is c.self.invariant) c.len.ensures.distinct
