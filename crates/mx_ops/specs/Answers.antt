-- What an operator answers: a value or a fault.
use Rattle.std.specs.Prelude.{◌≡◌, ℤ, Bool, nat_le, ◌&&◌, if◌then◌else◌, Option, Some, None, Result, Ok, Err, IsOk}
use Rattle.mx_value.specs.Size.{size_of}
use Rattle.mx_value.specs.Nesting.{nesting_of}
use Rattle.mx_value.specs.declared.fixed.NumFault.{NumFault}
use Rattle.mx_value.specs.declared.fixed.NumFault.TheVariants as num
use Rattle.mx_value.specs.declared.value.Value.{Value}
use Rattle.mx_value.specs.declared.value.Value.TheVariants.{Flag, Int, Fix}
use Rattle.mx_value.specs.declared.fault.FaultKind.{FaultKind}
use Rattle.mx_value.specs.declared.fault.FaultKind.TheVariants.{ZeroDivision, Overflow, Domain, TooLarge}
use Rattle.mx_ops.specs.Numbers.{has_64_bits}
use Rattle.mx_ops.specs.declared.op.OpRefusal.{OpRefusal}
use Rattle.mx_ops.specs.declared.op.OpRefusal.TheVariants as refusal

abbrev pub Answer : Type 0
Answer = Result Value FaultKind

-- a whole number, where it has 64 bits
abbrev pub whole : ℤ → Answer
whole n = if has_64_bits n then Ok (Int n) else Err Overflow

-- a whole number of 64 bits, or none
abbrev pub sized : Option ℤ → Answer
sized (Some n) = Ok (Int n)
sized None = Err Overflow

-- the fault of a computation with decimal numbers
abbrev pub fault_of : NumFault → FaultKind
fault_of num.Overflow = Overflow
fault_of num.ZeroDivision = ZeroDivision
fault_of num.Domain = Domain

-- a decimal number
abbrev pub decimal : Result ℤ NumFault → Answer
decimal (Ok x) = Ok (Fix x)
decimal (Err e) = Err (fault_of e)

-- a test's flag
abbrev pub flag : Result Bool FaultKind → Answer
flag (Ok b) = Ok (Flag b)
flag (Err kind) = Err kind

-- whether a value that is made is small enough: a size of at most 1,000,000 and a nesting of at most 64
abbrev pub is_allowed : Value → Bool
is_allowed v = nat_le (size_of v) 1_000_000 && nat_le (nesting_of v) 64

-- a text, a tuple or a range that is made
abbrev pub made : Value → Answer
made v = if is_allowed v then Ok v else Err TooLarge

-- The answer of a call that may also lack memory: it answers so only in place of a value, and never of a fault.
abbrev pub Answers : Result Value OpRefusal → Answer → Type 0
Answers (Ok v) answer = answer ≡ Ok v
Answers (Err (refusal.Fault kind)) answer = answer ≡ Err kind
Answers (Err refusal.NoMemory) answer = IsOk answer
