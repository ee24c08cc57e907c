-- Rings of nodes in flight.
use Rattle.std.specs.Prelude.{◌≡◌, List, ◌∷◌, ◌++◌}
use Rattle.mx_value.specs.declared.node.Node.{Node}

-- these are the nodes from this one on
pub record IsFrom (nodes : List Node) (n : Node) (ring : List Node) : Type 0 where
  pub lead : List Node
  pub rest : List Node
  pub whole : nodes ≡ lead ++ n ∷ rest
  pub is : ring ≡ n ∷ rest
