use Rattle.std.proofs.Common.{◌++◌, ◌∷◌, [], ◌+◌, List, ◌∙◌, refl, sym, ap, subst}
use Rattle.mx_value.specs.declared.node.Node.{Node}
use Rattle.mx_vertices.specs.Found.{IsNew}
use Rattle.mx_vertices.specs.Held.{entry_with}
use Rattle.mx_graph.specs.declared.ids.NodeId.{NodeId}
use Rattle.mx_memo.specs.Memos.{AreHeld, HoldsLast}
use Rattle.mx_frames.proofs.HeldLast.{held_last, few_held, keys_behind}
use Rattle.mx_frames.proofs.hold.hold.Goals as goal

pub hold-requires-clause-asks : goal.hold-requires-clause-asks
hold-requires-clause-asks c = subst (λ (ids : List NodeId). AreHeld c.args.memo.now.held ids) (sym c.as_slice-2.ensures) c.requires.ready.asks

pub hold-requires-clause-new : goal.hold-requires-clause-new
hold-requires-clause-new c = subst (λ (n : Node). IsNew c.args.memo.now.held n) (sym c.in-Ok.ensures.0) c.requires.ready.new

pub hold-requires-clause-last : goal.hold-requires-clause-last
hold-requires-clause-last c = record {
  before = c.requires.ready.before;
  is = c.requires.ready.begun ∙ ap (λ (n : Node). c.requires.ready.before ++ n ∷ []) (sym c.in-Ok.ensures.0);
}

pub returns-in-Ok-hold-clause-held : goal.returns-in-Ok-hold-clause-held
returns-in-Ok-hold-clause-held c =
    held_last c.args.memo.now c.hold.new.self c.args.current c.requires.ready
    (c.in-Ok-hold.ensures.ended ∙ ap (λ (n : Node). c.hold.new.self.begun ++ n ∷ []) c.in-Ok.ensures.0)
    c.args.reply _ c.in-Ok.body c.other_keys-others.result.now
    (subst (λ (ids : List NodeId). HoldsLast (record c.args.memo.now { begun = c.hold.new.self.begun }) c.hold.new.self (entry_with (c.args.memo.now.last + 1) c.in-Ok-hold.id.at c.in-Ok.body c.other_keys-others.result.now ids)) c.as_slice-2.ensures c.in-Ok-hold.ensures.held) c.in_order.ensures c.in-Ok.ensures.0 c.in-Ok.ensures.1 (c.in-Ok.ensures.2 ∙ c.into_parts-keys.ensures.reads) (keys_behind c.args.current.node c.get.result.now c.args.current.records.seen.keys c.as_slice.result.now c.other_keys-others.result.now c.get.ensures (c.as_slice.ensures ∙ c.into_parts-keys.ensures.keys) c.other_keys-others.ensures) (few_held _ c.in-Ok-hold.id _ refl c.in-Ok-hold.ensures.full.1) refl (c.in-Ok-copy.ensures ∙ c.in-Ok.ensures.1)
