-- Operators that take no operands, or more than two.
use Rattle.std.proofs.Common.{◌≡◌, ◌<◌, List, [], ◌∷◌, length, Err, refl, arith}
use Rattle.mx_value.specs.declared.value.Value.{Value}
use Rattle.mx_value.specs.declared.fault.FaultKind.TheVariants.{TypeMismatch}
use Rattle.mx_syntax.specs.declared.op.Op.{Op}
use Rattle.mx_syntax.specs.declared.op.Op.TheVariants as op
use Rattle.mx_ops.specs.Table.{gives}

pub nullary : (o : Op) → (o ≡ op.Tuple → ⊥) → gives o [] ≡ Err TypeMismatch
nullary op.Tuple h = absurd (h refl)
nullary o h = refl

three_or_more : (o : Op) (a b c : Value) (rest : List Value) → (o ≡ op.Min → ⊥) → (o ≡ op.Max → ⊥) → (o ≡ op.Range → ⊥) → gives o (a ∷ b ∷ c ∷ rest) ≡ Err TypeMismatch
three_or_more op.Min a b c rest h k l = absurd (h refl)
three_or_more op.Max a b c rest h k l = absurd (k refl)
three_or_more op.Range a b c rest h k l = absurd (l refl)
three_or_more o a b c rest h k l = refl

pub more : (o : Op) (xs : List Value) → 2 < length xs → (o ≡ op.Min → ⊥) → (o ≡ op.Max → ⊥) → (o ≡ op.Range → ⊥) → gives o xs ≡ Err TypeMismatch
more o [] m h k l = absurd (omega arith)
more o (a ∷ []) m h k l = absurd (omega arith)
more o (a ∷ b ∷ []) m h k l = absurd (omega arith)
more o (a ∷ b ∷ c ∷ rest) m h k l = three_or_more o a b c rest h k l

pub four : (xs : List Value) → 3 < length xs → gives op.Range xs ≡ Err TypeMismatch
four [] m = absurd (omega arith)
four (a ∷ []) m = absurd (omega arith)
four (a ∷ b ∷ []) m = absurd (omega arith)
four (a ∷ b ∷ c ∷ []) m = absurd (omega arith)
four (a ∷ b ∷ c ∷ d ∷ rest) m = refl
