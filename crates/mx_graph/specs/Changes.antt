-- What a change makes of the list of all edges. No public clause cites this module.
use Rattle.std.specs.Prelude.{List, [], ◌∷◌, ◌++◌}
use Rattle.mx_graph.specs.declared.added.Change.{Change}
use Rattle.mx_graph.specs.declared.added.Change.TheVariants.{Came, Left}
use Rattle.mx_graph.specs.Relation.{Entry, without}

abbrev pub changed : Change → List Entry → List Entry
changed (Came id reader read) edges = edges ++ record { id = id; reader = reader; read = read } ∷ []
changed (Left id) edges = without id.at edges
