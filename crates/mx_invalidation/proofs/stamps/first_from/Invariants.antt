use Rattle.std.proofs.Common.{◌≡◌, ◌<◌, ◌≤◌, ℕ, Some}
use Rattle.mx_graph.specs.declared.ids.NodeId.{NodeId}
use Rattle.mx_vertices.specs.Places.{at}
use Rattle.mx_invalidation.proofs.stamps.first_from.Given as goal

abbrev pub invariant-loop-place : goal.invariant-loop-place
invariant-loop-place l = (p : ℕ) (id : NodeId) → l.from ≤ p → p < l.place → at l.order p ≡ Some id → ⊥
