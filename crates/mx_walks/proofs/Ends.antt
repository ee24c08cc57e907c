-- How an address ends.
use Rattle.std.proofs.Common.{◌≡◌, ℕ, zero, suc, ◌+◌, ◌-◌, Bool, List, [], ◌∷◌, length, Some, None, ◌∙◌, ap, arith}
use Rattle.std.specs.Prelude.{slice_get}
use Rattle.std.proofs.lemmas.Option.{same_Some}
use Rattle.mx_value.specs.declared.value.Segment.{Segment, out-Segment}
use Rattle.mx_runs.specs.Inputs.{is_name}
use Rattle.mx_meaning.specs.Namespaces.{ends_with_name}

ends : (xs : List Segment) (s : Segment) (i : ℕ) → i + 1 ≡ length xs → Some s ≡ slice_get xs i → is_name (out-Segment s) ≡ ends_with_name xs
ends [] s i n e = absurd (omega arith)
ends (x ∷ []) s zero n e = ap (λ (y : Segment). is_name (out-Segment y)) (same_Some s x e)
ends (x ∷ []) s (suc i) n e = absurd (omega arith)
ends (x ∷ y ∷ more) s zero n e = absurd (omega arith)
ends (x ∷ y ∷ more) s (suc i) n e = ends (y ∷ more) s i (omega arith) e

-- by its last segment
pub ends_at : (xs : List Segment) (s : Segment) (b : Bool) → Some s ≡ slice_get xs (length xs - 1) → b ≡ is_name (out-Segment s) → b ≡ ends_with_name xs
ends_at [] s b e n = absurd (let f : Some s ≡ None = e in cc)
ends_at (x ∷ more) s b e n = n ∙ ends (x ∷ more) s (length (x ∷ more) - 1) (omega arith) e
