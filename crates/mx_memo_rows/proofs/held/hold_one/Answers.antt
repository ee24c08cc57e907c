use Rattle.std.proofs.Common.{List, refl, sym, subst}
use Rattle.mx_graph.specs.declared.ids.NodeId.{NodeId}
use Rattle.mx_vertices.specs.Places.{Has}
use Rattle.mx_vertices.specs.Kept.{IsHeld}
use Rattle.mx_memo.specs.Memos.{Memory}
use Rattle.mx_memo_rows.proofs.Recent.{still_held}
use Rattle.mx_memo_rows.proofs.held.hold_one.Goals as goal

pub hold-requires-clause-asks : goal.hold-requires-clause-asks
hold-requires-clause-asks c id h =
    subst (λ (m : Memory). IsHeld m.held id.at) (sym c.in-Ok.ensures.begun) (c.requires id (subst (λ (xs : List NodeId). Has xs id) c.deref-2.ensures.value h))

pub returns-in_default : goal.returns-in_default
returns-in_default c id h = subst (λ (m : Memory). IsHeld m.held id.at) (sym c.in_default.ensures.lost) (c.requires id h)

pub returns-in_default-hold : goal.returns-in_default-hold
returns-in_default-hold c id h =
    subst (λ (m : Memory). IsHeld m.held id.at) (sym c.in_default-hold.ensures.lost) (subst (λ (m : Memory). IsHeld m.held id.at) (sym c.in-Ok.ensures.begun) (c.requires id h))

pub returns : goal.returns
returns c id h =
    still_held (record c.begin.new.self { begun = c.hold.new.self.begun }) c.hold.new.self _ c.in-Ok-hold.id id c.args.recent.now.items c.in-Ok-hold.ensures.held refl
    (λ x i. subst (λ (m : Memory). IsHeld m.held x.at) (sym c.in-Ok.ensures.begun) (c.requires x i)) (c.remember.ensures id h)
