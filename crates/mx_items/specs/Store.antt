-- What a store of items holds.
use Rattle.std.specs.Prelude.{Option}
use Rattle.std.specs.HashMap.{get}
use Rattle.mx_value.specs.Equality.{node_eq}
use Rattle.mx_value.specs.declared.node.Node.{Node}
use Rattle.mx_value.specs.declared.namespace.Namespace.{Namespace}
use Rattle.mx_items.specs.declared.store.ItemStore.{ItemStore}

-- the namespace that is held for a node
abbrev pub held_in : ItemStore → Node → Option Namespace
held_in store n = get node_eq store.table n
