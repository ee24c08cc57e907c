-- The nodes of inputs that differ between two texts.
use Rattle.std.specs.Prelude.{List, [], ◌∷◌, ◌++◌, if◌then◌else◌}
use Rattle.mx_value.specs.declared.node.Node.{Node}
use Rattle.mx_value.specs.declared.value.Value.{Value}
use Rattle.mx_edit.specs.declared.key.Key.TheVariants.{Input}
use Rattle.mx_model.specs.Records.{ModelRecord}
use Rattle.mx_model.specs.Keys.{is_changed}

-- the node, where its input differs
abbrev pub one_changed : ModelRecord → ModelRecord → Node → List Node
one_changed before after n = if is_changed before after (Input n) then n ∷ [] else []

-- the nodes of these inputs that differ
abbrev pub changed_in : ModelRecord → ModelRecord → List (Node × Value) → List Node
changed_in before after [] = []
changed_in before after (input ∷ inputs) = one_changed before after input.0 ++ changed_in before after inputs
