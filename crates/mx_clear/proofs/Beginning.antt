-- Addresses, segment by segment.
use Rattle.std.proofs.Common.{◌≡◌, ◌∙◌, ◌<◌, Bool, true, false, ◌&&◌, List, [], ◌∷◌, length, refl, ap, arith}
use Rattle.mx_value.specs.declared.value.Segment.{Segment}
use Rattle.mx_value.specs.Equality.{segment_eq}
use Rattle.mx_clear.specs.Scope.{begins_with}

and_false : (b : Bool) → b && false ≡ false
and_false true = refl
and_false false = refl

pub longer : (at a : List Segment) → length a < length at → begins_with at a ≡ false
longer [] a l = absurd (omega (arith, l))
longer (s ∷ at) [] l = refl
longer (s ∷ at) (t ∷ a) l = ap (λ b. segment_eq t s && b) (longer at a (omega (arith, l))) ∙ and_false (segment_eq t s)
