-- Which values count as true: all that have a truth but None, 0, the empty text and the empty tuple.
use Rattle.std.specs.Prelude.{Bool, true, false, not, pos, List, [], ◌∷◌, Result, Ok, Err, if◌then◌else◌}
use Rattle.std.specs.Ordering.{int_eq}
use Rattle.std.specs.Bool.{beq}
use Rattle.mx_value.specs.declared.value.Value.{Value, out-Value}
use Rattle.mx_value.specs.declared.value.Segment.TheOpen.{Value-F}
use Rattle.mx_value.specs.declared.fault.FaultKind.{FaultKind}
use Rattle.mx_value.specs.declared.fault.FaultKind.TheVariants.{TypeMismatch}
use Rattle.mx_ops.specs.Kinds.{Content}

abbrev pub is_filled : {X : Type 0} → List X → Bool
is_filled [] = false
is_filled (x ∷ xs) = true

abbrev pub truth_in : Content → Result Bool FaultKind
truth_in Value-F.Nothing = Ok false
truth_in (Value-F.Flag b) = Ok b
truth_in (Value-F.Int n) = Ok (not (int_eq n (pos 0)))
truth_in (Value-F.Fix x) = Ok (not (int_eq x (pos 0)))
truth_in (Value-F.Text t) = Ok (is_filled t)
truth_in (Value-F.Tup items) = Ok (is_filled items)
truth_in (Value-F.Space at) = Err TypeMismatch
truth_in (Value-F.Cells at) = Err TypeMismatch
truth_in (Value-F.Table t) = Err TypeMismatch

abbrev pub truth : Value → Result Bool FaultKind
truth v = truth_in (out-Value v)

-- an item's truth where that decides, or is none; else what the items behind it give
abbrev pub unless : Bool → Result Bool FaultKind → Result Bool FaultKind → Result Bool FaultKind
unless decides (Ok b) rest = if beq b decides then Ok decides else rest
unless decides (Err kind) rest = Err kind

-- whether one counts as true, from the left, as far as one that decides
abbrev pub any_true : List Value → Result Bool FaultKind
any_true [] = Ok false
any_true (v ∷ vs) = unless true (truth v) (any_true vs)

-- whether all count as true, likewise
abbrev pub all_true : List Value → Result Bool FaultKind
all_true [] = Ok true
all_true (v ∷ vs) = unless false (truth v) (all_true vs)
