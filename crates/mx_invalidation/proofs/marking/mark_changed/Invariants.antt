use Rattle.std.proofs.Common.{◌≡◌, ℕ, Some, true}
use Rattle.std.specs.Prelude.{◌↔◌, ◌⊎◌, IsSome}
use Rattle.std.specs.FinMap as map
use Rattle.mx_invalidation.specs.Marked.{IsMarkedFrom}
use Rattle.mx_invalidation.proofs.marking.mark_changed.Given as goal

abbrev pub invariant-loop-key : goal.invariant-loop-key
invariant-loop-key g l = record {
  live : (q : ℕ) → IsSome (map.get l.graph.nodes q) ↔ IsSome (map.get l.fn.graph.nodes q);
  edges : l.graph.edges ≡ l.fn.graph.edges;
  marked : (q : ℕ) → (map.get l.graph.nodes q ≡ Some true) ↔ ((map.get l.fn.graph.nodes q ≡ Some true) ⊎ IsMarkedFrom l.slots (g.T.KeyTest.changed l.test) l.keys l.fn.graph.edges l.key-index q);
}
