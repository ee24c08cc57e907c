use Rattle.mx_members.proofs.MemberLemmas.{there, redefined, appended}
use Rattle.mx_members.proofs.members.Members.define.Goals as goal

pub set-requires : goal.set-requires
set-requires g c =
    there c.self.inside.keys c.self.inside.members c.args.self.now c.self.view_is c.self.invariant (g.K.PartialEq.eq c.args.key) c.in-Some.at c.in-Some.ensures

pub returns-in-Some-clause-defined : goal.returns-in-Some-clause-defined
returns-in-Some-clause-defined g c =
    redefined g.K.PartialEq.eq c.args.key c.self.inside.keys c.self.inside.members c.args.self.now c.self.view_is c.self.invariant c.args.member c.in-Some.at c.set.new.self
    c.in-Some.ensures c.in_ok-set-in-Some.ensures.ok

pub returns-in-None-clause-defined : goal.returns-in-None-clause-defined
returns-in-None-clause-defined g c =
    appended g.K.PartialEq.eq c.args.key c.self.inside.keys c.self.inside.members c.args.self.now c.self.view_is c.self.invariant c.args.member c.in_ok-keys-in-None.keys
    c.push.new.self c.in-None.ensures c.in_ok-keys-in-None.ensures c.in_ok-push-in-None.ensures.ok
