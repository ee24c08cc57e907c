-- What an edit of the rows changes.
use Rattle.std.specs.Prelude.{ℕ, Bool, false, ◌||◌, List, [], ◌∷◌}
use Rattle.mx_value.specs.Equality.{label_eq, node_eq}
use Rattle.mx_value.specs.declared.node.Node.{Node}
use Rattle.mx_edit.specs.declared.key.Key.{Key}
use Rattle.mx_edit.specs.declared.key.Key.TheVariants as key

abbrev pub has_node : List Node → Node → Bool
has_node [] n = false
has_node (m ∷ nodes) n = node_eq m n || has_node nodes n

-- a reference of the model, and the inputs of some nodes
abbrev pub changed_in : List ℕ → List Node → Key → Bool
changed_in name inputs (key.Name path x) = false
changed_in name inputs (key.Global x) = label_eq x name
changed_in name inputs (key.Cells path x) = false
changed_in name inputs (key.Params path) = false
changed_in name inputs (key.Exists path) = false
changed_in name inputs (key.Input n) = has_node inputs n
changed_in name inputs (key.Table x) = false
