-- Inputs: nodes whose value was put in. They have no run of a formula.
use Rattle.std.specs.Prelude.{◌≡◌, Bool, true, false, ◌&&◌, List, [], ◌∷◌, None}
use Rattle.mx_value.specs.declared.value.Value.{Value}
use Rattle.mx_value.specs.declared.value.Segment.{Segment, out-Segment}
use Rattle.mx_value.specs.declared.value.Segment.TheOpen.{Segment-F}
use Rattle.mx_value.specs.declared.node.Node.{Node}
use Rattle.mx_value.specs.declared.node.Node.TheVariants.{Cell, Item}
use Rattle.mx_edit.specs.declared.key.Key.TheVariants.{Input}
use Rattle.mx_edit.specs.declared.key.KeyResult.{KeyResult}
use Rattle.mx_edit.specs.declared.key.KeyResult.TheVariants as found
use Rattle.mx_runs.specs.Runs.{Model, Run, Looks, Ends, Gives}

-- the segment is a name, and no item
abbrev pub is_name : {X Y Z : Type 0} → Segment-F X Y Z → Bool
is_name (Segment-F.Name name) = true
is_name (Segment-F.Item items) = false

-- the address has no item
abbrev pub is_static : List Segment → Bool
is_static [] = true
is_static (s ∷ at) = is_name (out-Segment s) && is_static at

-- the key leads to a value that was put in
abbrev pub is_value : KeyResult → Bool
is_value (found.Value v) = true
is_value r = false

-- the node is of cells at an address without an item, and has a value that was put in
abbrev pub is_input : Model → Node → Bool
is_input model (Cell at name arguments) = is_static at && is_value (model.look (Input (Cell at name arguments)))
is_input model (Item at arguments) = false

-- the run looks the node's input up before all else, and a value ends it
pub record EndsByInput (run : Run) (n : Node) : Type 0 where
  pub go : KeyResult → Run
  pub starts : run ≡ Looks (Input n) go
  pub ends : (v : Value) → go (found.Value v) ≡ Ends (Gives (record { value = v; namespace = None }))

-- what is owed of the runs: that of an input ends at its first look
abbrev pub InputsEnd : Model → Type 0
InputsEnd model = (n : Node) → is_input model n ≡ true → EndsByInput (model.body n) n
