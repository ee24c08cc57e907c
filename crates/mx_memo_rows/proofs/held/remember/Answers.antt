use Rattle.std.proofs.Common.{◌≡◌, List, [], ◌∷◌, ◌++◌, ap, subst, Vec, Global, ◌∙◌, inl, inr}
use Rattle.mx_graph.specs.declared.ids.NodeId.{NodeId}
use Rattle.mx_vertices.specs.Places.{Has}
use Rattle.mx_memo_rows.proofs.Recent.{has_or_last}
use Rattle.mx_memo_rows.proofs.held.remember.Goals.{Joined-len-ge5, then-len-ge5, else-len-ge5}
use Rattle.mx_memo_rows.proofs.held.remember.Goals as goal

-- what was there before is all that is left
left : (c : Joined-len-ge5) (x : NodeId) → Has c.if-len-ge5.recent.items x → Has c.args.recent.now.items x
left c x h =
    elim c.if-len-ge5.branch [
      | then-len-ge5 w ↦ absurd (subst (λ (xs : List NodeId). Has xs x) (ap (λ (v : Vec NodeId Global). v.items) w.recent-is ∙ w.clear.ensures.items) h)
      | else-len-ge5 w ↦ subst (λ (xs : List NodeId). Has xs x) (ap (λ (v : Vec NodeId Global). v.items) w.recent-is) h
    ]

pub returns : goal.returns
returns c x h =
    let items : c.push.new.self.items ≡ c.if-len-ge5.recent.items ++ c.args.id ∷ [] = c.in-Ok.ensures.items in
    elim (has_or_last c.if-len-ge5.recent.items c.args.id x (subst (λ (xs : List NodeId). Has xs x) items h)) [ inl a ↦ inl (left ((goal.at.returns c).Joined-len-ge5) x a) | inr e ↦ inr e ]

pub returns-in_default : goal.returns-in_default
returns-in_default c x h =
    let items : c.push.new.self.items ≡ c.if-len-ge5.recent.items = c.in_default.ensures.items in
    inl (left ((goal.at.returns-in_default c).Joined-len-ge5) x (subst (λ (xs : List NodeId). Has xs x) items h))
