-- A model of three nodes: one whose value was put in, one that asks it, and one that asks itself.
use Rattle.std.specs.Prelude.{ℕ, List, [], ◌∷◌, None}
use Rattle.mx_value.specs.declared.value.Value.{Value}
use Rattle.mx_value.specs.declared.node.Node.{Node}
use Rattle.mx_value.specs.declared.node.Node.TheVariants.{Cell, Item}
use Rattle.mx_value.specs.declared.read.Read.TheVariants as read
use Rattle.mx_edit.specs.Entry.{Entry}
use Rattle.mx_edit.specs.declared.key.Key.{Key}
use Rattle.mx_edit.specs.declared.key.Key.TheVariants.{Input}
use Rattle.mx_edit.specs.declared.key.KeyResult.{KeyResult}
use Rattle.mx_edit.specs.declared.key.KeyResult.TheVariants as found
use Rattle.mx_edit.specs.declared.reply.Reply.{Reply}
use Rattle.mx_runs.specs.Runs.{Model, Run, Ends, Looks, Tests, Asks, Gives, NoSuch}

abbrev pub put : Node
put = Cell [] [] []

abbrev pub asker : Node
asker = Cell [] (0 ∷ []) []

abbrev pub circle : Node
circle = Cell [] (0 ∷ 0 ∷ []) []

-- the value was put in for the cells without a name
abbrev pub input_of : Value → Node → KeyResult
input_of v (Cell at [] arguments) = found.Value v
input_of v n = found.Missing

abbrev pub look : Value → Key → KeyResult
look v (Input n) = input_of v n
look v k = found.Missing

abbrev pub plain : Value → Reply
plain v = record { value = v; namespace = None }

abbrev pub input_or : Run → KeyResult → Run
input_or run (found.Value v) = Ends (Gives (plain v))
input_or run r = run

-- the run of a formula, by the cells' name
abbrev pub formula : List ℕ → Run
formula [] = Ends NoSuch
formula (x ∷ []) = Tests (Input put) (λ _. Asks put (λ r. Ends (Gives r)))
formula (x ∷ y ∷ name) = Asks circle (λ r. Ends (Gives r))

abbrev pub body : Node → Run
body (Cell at name arguments) = Looks (Input (Cell at name arguments)) (input_or (formula name))
body (Item at arguments) = Ends NoSuch

abbrev pub small : Value → Model
small v = record { look = look v; body = body }

-- what is held of the node that asks
abbrev pub asked : Value → Entry
asked v = record { node = asker; reply = plain v; keys = Input asker ∷ Input put ∷ []; asks = []; reads = read.Node put ∷ [] }
