use Rattle.std.proofs.Common.{◌≡◌, ℕ, Some, true}
use Rattle.std.specs.Prelude.{◌↔◌, ◌⊎◌, IsSome}
use Rattle.std.specs.FinMap as map
use Rattle.mx_invalidation.specs.Marked.{IsReaching}
use Rattle.mx_invalidation.proofs.marking.mark_after.Given as goal

abbrev pub invariant-loop-place : goal.invariant-loop-place
invariant-loop-place l = record {
  live : (q : ℕ) → IsSome (map.get l.graph.nodes q) ↔ IsSome (map.get l.fn.graph.nodes q);
  edges : l.graph.edges ≡ l.fn.graph.edges;
  marked : (q : ℕ) → (map.get l.graph.nodes q ≡ Some true) ↔ ((map.get l.fn.graph.nodes q ≡ Some true) ⊎ IsReaching l.order l.fn.graph.edges l.from l.place q);
}
