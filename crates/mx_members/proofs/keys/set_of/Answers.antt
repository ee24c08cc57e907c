use Rattle.std.proofs.Common.{[], ◌∙◌, sym}
use Rattle.mx_members.proofs.MemberLemmas.{add_more}
use Rattle.mx_members.proofs.keys.set_of.Goals as goal

pub loop-at-preserved : goal.loop-at-preserved
loop-at-preserved g c =
    add_more g.K.PartialEq.eq g.met.K.Eq.laws [] c.args.keys.now c.loop-at.set.keys c.insert.new.self.keys c.loop-at.at c.in-Some.key.now c.new.result
    c.requires c.loop-at.invariant (sym c.in-Some.ensures) (c.new.ensures ∙ c.in_ok-share.ensures) c.in_ok-insert.ensures.keys
