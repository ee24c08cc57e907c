use Rattle.std.proofs.Common.{◌≡◌, ℕ, Some, true, take}
use Rattle.std.specs.Prelude.{◌↔◌, ◌⊎◌, IsSome}
use Rattle.std.specs.FinMap as map
use Rattle.mx_invalidation.specs.Marked.{IsInputFrom}
use Rattle.mx_invalidation.proofs.inputs.mark_inputs.Given as goal

abbrev pub invariant-loop-node : goal.invariant-loop-node
invariant-loop-node l = record {
  live : (q : ℕ) → IsSome (map.get l.graph.nodes q) ↔ IsSome (map.get l.fn.graph.nodes q);
  edges : l.graph.edges ≡ l.fn.graph.edges;
  marked : (q : ℕ) → (map.get l.graph.nodes q ≡ Some true) ↔ ((map.get l.fn.graph.nodes q ≡ Some true) ⊎ IsInputFrom l.slots l.fn.graph.edges (take l.node-index l.nodes) q);
}
