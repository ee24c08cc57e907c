use Rattle.std.proofs.Common.{◌≡◌, ◌++◌}
use Rattle.mx_vertices.proofs.walks.keys_at.Given as goal

abbrev pub invariant-loop-key : goal.invariant-loop-key
invariant-loop-key l =
    (goal.iterator-loop-key).can_next l.key-iterator × (goal.iterator-loop-key).is_finite l.key-iterator × (l.keys.items ++ l.key-iterator ≡ l.initial.keys.items ++ l.initial.key-iterator)
