-- How a run ends, as the meaning has it.
use Rattle.std.specs.Prelude.{Option, Some, None}
use Rattle.std.specs.Global.{Box}
use Rattle.mx_value.specs.declared.value.Value.{Value}
use Rattle.mx_value.specs.declared.node.Node.{Node}
use Rattle.mx_runs.specs.Runs.{Outcome, Gives, Faults, NoSuch, WrongCount}
use Rattle.mx_lookup.specs.declared.ending.Ending.{Ending}
use Rattle.mx_lookup.specs.declared.ending.Ending.TheVariants as ending

-- the run of this node
abbrev pub ending_of : Node → Ending → Outcome
ending_of n (ending.Gives reply) = Gives reply
ending_of n (ending.Faults kind line) = Faults kind n line
ending_of n ending.NoSuch = NoSuch
ending_of n ending.WrongCount = WrongCount

-- the base of a display, where it has one
abbrev pub based_on : Option (Box Value) → Option Value
based_on (Some base) = Some base.value
based_on None = None
