-- Which bytes come before others where one list has come to its end: those that are fewer.
use Rattle.std.proofs.Common.{◌≡◌, ℕ, zero, suc, ◌<◌, ◌≤◌, List, [], ◌∷◌, length, drop, refl, arith}
use Rattle.std.specs.Prelude.{◌↔◌}
use Rattle.std.specs.Ordering.{nat_cmp}
use Rattle.std.specs.declared.cmp.Ordering.TheVariants.{Less, Equal, Greater}
use Rattle.std.specs.Cmp.Lexicographic.{slice_cmp}

pub ended : (xs ys : List ℕ) (i : ℕ) → i ≤ length xs → i ≤ length ys → (i < length xs → i < length ys → ⊥) → (length xs < length ys) ↔ (slice_cmp nat_cmp (drop i xs) (drop i ys) ≡ Less)
ended [] [] zero h k m = (λ l. absurd (omega arith), λ e. absurd (let f : Equal ≡ Less = e in cc))
ended [] (y ∷ ys) zero h k m = (λ l. refl, λ e. omega arith)
ended (x ∷ xs) [] zero h k m = (λ l. absurd (omega arith), λ e. absurd (let f : Greater ≡ Less = e in cc))
ended (x ∷ xs) (y ∷ ys) zero h k m = absurd (m (omega arith) (omega arith))
ended [] ys (suc i) h k m = absurd (omega arith)
ended (x ∷ xs) [] (suc i) h k m = absurd (omega arith)
ended (x ∷ xs) (y ∷ ys) (suc i) h k m =
    let r = ended xs ys i (omega arith) (omega arith) (λ l n. m (omega arith) (omega arith)) in
    (λ l. r.0 (omega arith), λ e. let l = r.1 e in omega arith)
