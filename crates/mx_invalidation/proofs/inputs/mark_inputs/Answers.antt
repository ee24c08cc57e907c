use Rattle.std.proofs.Common.{◌∙◌, ◌≡◌, List, Some, true, subst, ◌⊎◌}
use Rattle.std.specs.Prelude.{◌↔◌}
use Rattle.std.specs.FinMap as map
use Rattle.mx_graph.specs.Relation.{Entry}
use Rattle.mx_value.specs.declared.node.Node.{Node as Asked}
use Rattle.mx_invalidation.specs.Marked.{IsInputBy}
use Rattle.mx_invalidation.proofs.MarkedInputs.{more_inputs, both_marked}
use Rattle.mx_invalidation.proofs.inputs.mark_inputs.Goals as goal

pub loop-node-preserved : goal.loop-node-preserved
loop-node-preserved c =
    let i = c.loop-node.invariant in
    let e = c.mark_input.ensures in
    record {
      live = λ q. (λ l. (i.live q).0 ((e.live q).0 l), λ l. (e.live q).1 ((i.live q).1 l));
      edges = e.edges ∙ i.edges;
      marked = λ q.
          let last : (map.get c.mark_input.new.graph.nodes q ≡ Some true) ↔ ((map.get c.loop-node.graph.nodes q ≡ Some true) ⊎ IsInputBy c.args.slots.now c.args.graph.now.edges c.node-item.result q)
          = subst (λ (es : List Entry). (map.get c.mark_input.new.graph.nodes q ≡ Some true) ↔ ((map.get c.loop-node.graph.nodes q ≡ Some true) ⊎ IsInputBy c.args.slots.now es c.node-item.result q)) i.edges (e.marked q) in
          both_marked (subst (λ (n : Asked). (map.get c.mark_input.new.graph.nodes q ≡ Some true) ↔ ((map.get c.loop-node.graph.nodes q ≡ Some true) ⊎ IsInputBy c.args.slots.now c.args.graph.now.edges n q)) c.node-item.is last) (i.marked q) (more_inputs c.args.slots.now c.args.graph.now.edges c.args.nodes.now c.loop-node.node-index c.node-item.result c.loop-node-test.true q);
    }
