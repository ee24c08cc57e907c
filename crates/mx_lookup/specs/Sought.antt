-- A name that may be bound in a namespace.
use Rattle.std.specs.Prelude.{Option, Some, None}
use Rattle.mx_value.specs.declared.value.Value.{Value}
use Rattle.mx_code_law.specs.States.{Next}

-- on with the value that it is bound to, or else as otherwise
abbrev pub found_or : (Value → Next) → Next → Option Value → Next
found_or to other (Some v) = to v
found_or to other None = other
