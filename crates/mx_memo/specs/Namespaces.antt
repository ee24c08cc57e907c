-- The namespaces of held item nodes.
use Rattle.std.specs.Prelude.{List, [], ◌∷◌, Option, None, if◌then◌else◌}
use Rattle.mx_value.specs.Equality.{node_eq}
use Rattle.mx_value.specs.declared.node.Node.{Node}
use Rattle.mx_value.specs.declared.namespace.Namespace.{Namespace}
use Rattle.mx_vertices.specs.Kept.{Kept}

-- the namespace that is held for a node
abbrev pub namespace_held : List Kept → Node → Option Namespace
namespace_held [] n = None
namespace_held (r ∷ held) n = if node_eq r.body.node n then r.body.reply.namespace else namespace_held held n
