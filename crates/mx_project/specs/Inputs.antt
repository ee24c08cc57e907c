-- Inputs with the texts of their nodes, by which they are sorted.
use Rattle.std.specs.Prelude.{◌≡◌, List}
use Rattle.std.specs.List.{concat}
use Rattle.mx_value.specs.declared.value.Value.{Value}
use Rattle.mx_value.specs.declared.node.Node.{Node}
use Rattle.mx_print.specs.Texts.{Text}
use Rattle.mx_print.specs.Values.{node_text}
use Rattle.mx_project.specs.Lines.{input_lines}
use Rattle.mx_project.specs.Writing.{AreOrdered}
use Rattle.mx_project.specs.declared.inputs.InputRow.{InputRow}

-- an input with the text of its node
abbrev pub row_of : Node × Value → InputRow
row_of i = record { text = node_text i.0; node = i.0; value = i.1 }

-- the input of a row
abbrev pub input_in : InputRow → Node × Value
input_in row = (row.node, row.value)

-- the lines of these inputs in the order of their nodes' texts
pub record IsInputsText (inputs : List (Node × Value)) (bytes : Text) : Type 0 where
  pub sorted : List (Node × Value)
  pub ordered : AreOrdered inputs sorted
  pub are : bytes ≡ concat (input_lines sorted)
