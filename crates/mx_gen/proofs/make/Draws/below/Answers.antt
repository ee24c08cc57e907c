use Rattle.std.proofs.Common.{◌≡◌, ℕ, ◌+◌, ◌*◌, ◌/◌, ◌%◌, ◌^◌, ap, ◌∙◌}
use Rattle.std.proofs.Math.Nat.{mod-add-mod}
use Rattle.mx_gen.specs.Generated.{after, drawn}
use Rattle.mx_gen.proofs.make.Draws.below.Goals as goal

-- wrapped twice is wrapped once
wrapped : (x : ℕ) → ((x * 6364136223846793005) % 2 ^ 64 + 1442695040888963407) % 2 ^ 64 ≡ after x
wrapped x = mod-add-mod (x * 6364136223846793005) (2 ^ 64) 1442695040888963407

pub returns-clause-state : goal.returns-clause-state
returns-clause-state c = wrapped c.args.self.now.state

pub returns-clause-number : goal.returns-clause-number
returns-clause-number c =
    ap (λ (n : ℕ). (n / 2 ^ 33) % c.from.result) (wrapped c.args.self.now.state) ∙ ap (λ (k : ℕ). drawn (after c.args.self.now.state) k) c.from.ensures
