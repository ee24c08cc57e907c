use Rattle.std.proofs.Common.{◌≡◌, ℕ, Some, true}
use Rattle.std.specs.Prelude.{◌↔◌, ◌⊎◌, IsSome}
use Rattle.std.specs.FinMap as map
use Rattle.mx_invalidation.specs.Marked.{IsUnreadFrom}
use Rattle.mx_invalidation.proofs.unread.mark_unread.Given as goal

abbrev pub invariant-loop-key : goal.invariant-loop-key
invariant-loop-key l = record {
  live : (q : ℕ) → IsSome (map.get l.graph.nodes q) ↔ IsSome (map.get l.fn.graph.nodes q);
  edges : l.graph.edges ≡ l.fn.graph.edges;
  marked : (q : ℕ) → (map.get l.graph.nodes q ≡ Some true) ↔ ((map.get l.fn.graph.nodes q ≡ Some true) ⊎ IsUnreadFrom l.keys l.fn.graph.edges l.key-index q);
}
