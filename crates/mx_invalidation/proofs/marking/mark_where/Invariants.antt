use Rattle.std.proofs.Common.{◌≡◌, ℕ, Some, true}
use Rattle.std.specs.Prelude.{◌↔◌, ◌⊎◌, IsSome}
use Rattle.std.specs.FinMap as map
use Rattle.mx_invalidation.specs.Marked.{IsGoingFrom}
use Rattle.mx_invalidation.proofs.marking.mark_where.Given as goal

abbrev pub invariant-loop-node : goal.invariant-loop-node
invariant-loop-node g l = record {
  live : (q : ℕ) → IsSome (map.get l.graph.nodes q) ↔ IsSome (map.get l.fn.graph.nodes q);
  edges : l.graph.edges ≡ l.fn.graph.edges;
  marked : (q : ℕ) → (map.get l.graph.nodes q ≡ Some true) ↔ ((map.get l.fn.graph.nodes q ≡ Some true) ⊎ IsGoingFrom l.slots (g.T.NodeTest.goes l.test) l.order l.fn.graph.edges l.node-index q);
}
