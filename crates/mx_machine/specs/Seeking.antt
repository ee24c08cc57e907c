-- What is asked for a node, as far as what is held tells it.
use Rattle.std.specs.Prelude.{List}
use Rattle.mx_value.specs.declared.node.Node.{Node}
use Rattle.mx_value.specs.declared.namespace.Namespace.{Namespace}
use Rattle.mx_vertices.specs.Kept.{Kept}
use Rattle.mx_binding.specs.declared.records.Records.{Records}
use Rattle.mx_runs.specs.Runs.{Model}
use Rattle.mx_binding.specs.Walking.{IsLed}
use Rattle.mx_binding.specs.declared.walking.Led.TheVariants as led
use Rattle.mx_state.specs.Evaluations.{IsAsked}
use Rattle.mx_state.specs.Proper.{address_of}
use Rattle.mx_machine.specs.declared.behind.Behind.{Behind}
use Rattle.mx_machine.specs.declared.seeking.Sought.{Sought}
use Rattle.mx_machine.specs.declared.seeking.Sought.TheVariants as sought

-- the walk of the node's address, past each item that is held, waits for this item, which is not
abbrev pub IsBehind : Model → List Kept → Node → Behind → Type 0
IsBehind model held n b = IsLed model held (address_of n) (led.Waits b.item b.rest) b.records

-- the node that is asked, or the item that its walk waits for
abbrev pub IsSought : Model → List Kept → Node → Sought → Type 0
IsSought model held n (sought.Asked b) = IsAsked model n b
IsSought model held n (sought.Behind b) = IsBehind model held n b

-- the node that is asked where the walk came to this namespace
abbrev pub IsAskedIn : Model → Node → Namespace → Node → Type 0
IsAskedIn model n ns b = (held : List Kept) (records : Records) → IsLed model held (address_of n) (led.Came ns) records → IsAsked model n b
