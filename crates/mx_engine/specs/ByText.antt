-- Nodes in the order of their texts.
use Rattle.std.specs.Prelude.{◌≡◌, List, [], ◌∷◌}
use Rattle.std.specs.Ordering.{nat_cmp}
use Rattle.std.specs.Cmp.Lexicographic.{slice_cmp}
use Rattle.std.specs.declared.cmp.Ordering.TheVariants.{Less}
use Rattle.mx_value.specs.declared.node.Node.{Node}
use Rattle.mx_print.specs.Values.{node_text}
use Rattle.mx_runs.specs.Lists.{Has}

-- no node stands before one whose text is less by its bytes
abbrev pub AreByText : List Node → Type 0
AreByText [] = Unit {0}
AreByText (x ∷ xs) = ((y : Node) → Has xs y → slice_cmp nat_cmp (node_text y) (node_text x) ≡ Less → ⊥) × AreByText xs
