use Rattle.std.proofs.Common.{◌≡◌}
use Rattle.mx_gen.specs.Generated.{edits_of, state_at}
use Rattle.mx_gen.proofs.make.make.Given as goal

abbrev pub invariant-loop-i : goal.invariant-loop-i
invariant-loop-i l = (l.edits.items ≡ edits_of l.seed l.i) × (l.draws.state ≡ state_at l.seed l.i)
