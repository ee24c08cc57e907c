use Rattle.std.proofs.Common.{◌∙◌, sym}
use Rattle.mx_engine.proofs.Gathered.{at_has, gathered_next}
use Rattle.mx_engine.proofs.Sought.{as_node}
use Rattle.mx_engine.proofs.gathering.nodes_of.Goals as goal

pub unreachable-requires : goal.unreachable-requires
unreachable-requires c = c.in_default.ensures (c.requires.held _ (at_has c.args.ids.now c.loop-id.id-index (record { at = 0 }) c.loop-id-test.true))

pub loop-id-preserved : goal.loop-id-preserved
loop-id-preserved c =
    gathered_next c.args.memo.now.held c.args.ids.now c.loop-id.id-index (record { at = 0 }) c.loop-id.nodes.keys c.insert.new.self.keys _ c.in_ok-copy.field-0 c.loop-id.invariant c.loop-id-test.true
    (c.laws.ensures.one_under_id c.args.memo.now _ c.in-Some.body.now.node c.requires.ordered (as_node c.in-Some.ensures) ∙ sym c.get.ensures ∙ sym c.in_ok-copy.ensures) c.in_ok-insert.ensures.keys
