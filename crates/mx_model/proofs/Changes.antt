-- The test of changed keys.
use Rattle.std.proofs.Common.{◌≡◌, Bool, true, false, not, refl}
use Rattle.std.specs.Bool.{Decides}
use Rattle.std.specs.Prelude.{IsTrue, ◌↔◌}

pub differs : {P : Type 0} (b : Bool) → Decides b P → IsTrue (not b) ↔ (P → ⊥)
differs true d = (λ f. absurd (let g : false ≡ true = f in cc), λ n. absurd (n (d.0 refl)))
differs false d = (λ t p. absurd (let g : false ≡ true = d.1 p in cc), λ n. refl)
