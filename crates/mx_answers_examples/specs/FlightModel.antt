-- A model of seven nodes: an input, a node that asks it, one that asks that node twice, one that asks it and meets a
-- fault, one that asks it and finds no such node, and two that ask each other, with one that leads to them.
use Rattle.std.specs.Prelude.{ℕ, List, [], ◌∷◌, None}
use Rattle.mx_value.specs.declared.value.Value.{Value}
use Rattle.mx_value.specs.declared.fault.FaultKind.TheVariants.{NoIndex}
use Rattle.mx_value.specs.declared.node.Node.{Node}
use Rattle.mx_value.specs.declared.node.Node.TheVariants.{Cell, Item}
use Rattle.mx_value.specs.declared.read.Read.TheVariants as read
use Rattle.mx_edit.specs.Entry.{Entry}
use Rattle.mx_edit.specs.declared.key.Key.{Key}
use Rattle.mx_edit.specs.declared.key.Key.TheVariants.{Input}
use Rattle.mx_edit.specs.declared.key.KeyResult.{KeyResult}
use Rattle.mx_edit.specs.declared.key.KeyResult.TheVariants as found
use Rattle.mx_edit.specs.declared.reply.Reply.{Reply}
use Rattle.mx_runs.specs.Runs.{Model, Run, Ends, Looks, Tests, Asks, Notes, Gives, Faults, NoSuch}

-- the cells of this name
abbrev pub cells : List ℕ → Node
cells name = Cell [] name []

abbrev pub put : Node
put = cells []

abbrev pub inner : Node
inner = cells (0 ∷ [])

abbrev pub outer : Node
outer = cells (0 ∷ 0 ∷ [])

abbrev pub faulty : Node
faulty = cells (0 ∷ 0 ∷ 0 ∷ [])

abbrev pub missing : Node
missing = cells (0 ∷ 0 ∷ 0 ∷ 0 ∷ [])

abbrev pub lead : Node
lead = cells (0 ∷ 0 ∷ 0 ∷ 0 ∷ 0 ∷ [])

abbrev pub knot : Node
knot = cells (0 ∷ 0 ∷ 0 ∷ 0 ∷ 0 ∷ 0 ∷ [])

abbrev pub turn : Node
turn = cells (0 ∷ 0 ∷ 0 ∷ 0 ∷ 0 ∷ 0 ∷ 0 ∷ [])

-- the value was put in for the cells without a name
abbrev pub input_of : Value → Node → KeyResult
input_of v (Cell at [] arguments) = found.Value v
input_of v n = found.Missing

abbrev pub look : Value → Key → KeyResult
look v (Input n) = input_of v n
look v k = found.Missing

abbrev pub plain : Value → Reply
plain v = record { value = v; namespace = None }

abbrev pub input_or : Run → KeyResult → Run
input_or run (found.Value v) = Ends (Gives (plain v))
input_or run r = run

-- the run of a formula, by the cells' name
abbrev pub formula : List ℕ → Run
formula [] = Ends NoSuch
formula (a ∷ []) = Tests (Input put) (λ _. Asks put (λ r. Ends (Gives r)))
formula (a ∷ b ∷ []) = Asks inner (λ r. Notes (read.Global (0 ∷ [])) (Asks inner (λ s. Ends (Gives s))))
formula (a ∷ b ∷ c ∷ []) = Asks inner (λ r. Ends (Faults NoIndex faulty 1))
formula (a ∷ b ∷ c ∷ d ∷ []) = Asks inner (λ r. Ends NoSuch)
formula (a ∷ b ∷ c ∷ d ∷ e ∷ []) = Asks knot (λ r. Ends (Gives r))
formula (a ∷ b ∷ c ∷ d ∷ e ∷ f ∷ []) = Asks turn (λ r. Ends (Gives r))
formula (a ∷ b ∷ c ∷ d ∷ e ∷ f ∷ g ∷ name) = Asks knot (λ r. Ends (Gives r))

abbrev pub body : Node → Run
body (Cell at name arguments) = Looks (Input (Cell at name arguments)) (input_or (formula name))
body (Item at arguments) = Ends NoSuch

abbrev pub small : Value → Model
small v = record { look = look v; body = body }

-- what is held of the node that asks the input
abbrev pub inner_entry : Value → Entry
inner_entry v = record { node = inner; reply = plain v; keys = Input inner ∷ Input put ∷ []; asks = []; reads = read.Node put ∷ [] }

-- what is held of the node that asks that node twice
abbrev pub outer_entry : Value → Entry
outer_entry v = record { node = outer; reply = plain v; keys = Input outer ∷ []; asks = inner ∷ []; reads = read.Node inner ∷ read.Global (0 ∷ []) ∷ [] }
