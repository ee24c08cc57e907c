use Rattle.std.proofs.Common.{◌++◌, ◌∷◌, [], ◌∙◌, ap, arith}
use Rattle.mx_members.proofs.MemberLemmas.{one_more}
use Rattle.mx_members.proofs.keys.Keys.push.Goals as goal

pub invariant_of-self-2 : goal.invariant_of-self-2
invariant_of-self-2 g c =
    one_more g.K.PartialEq.eq g.met.K.Eq.laws (c.self.inside.base.keys ++ c.self.inside.middle.keys) c.self.inside.last c.push.new.self c.args.self.now c.args.key c.self.inside.count c.in-Some.count
    c.self.view_is c.self.invariant.0 c.self.invariant.1 c.requires.new (c.in_ok-push.ensures.ok ∙ ap (λ k. c.self.inside.last ++ k ∷ []) c.new.ensures) (omega arith)
