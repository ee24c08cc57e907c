use Rattle.std.proofs.Common.{List, sym, subst}
use Rattle.std.specs.HashMap.{get as look_up}
use Rattle.mx_value.specs.Equality.{node_eq}
use Rattle.mx_graph.specs.declared.ids.NodeId.{NodeId}
use Rattle.mx_vertices.specs.declared.slot.Slot.{Slot}
use Rattle.mx_edit.specs.Equality.{key_eq}
use Rattle.mx_vertices.specs.Live.{AreKeysLive}
use Rattle.mx_vertices.proofs.Watching.{keys_live}
use Rattle.mx_vertices.specs.Found.{LeadsTo, AreWatched}
use Rattle.mx_vertices.specs.Kept.{looked, entries}
use Rattle.mx_vertices.specs.Reading.{AreTakers}
use Rattle.mx_vertices.specs.Walks.{AreAllReaders}
use Rattle.mx_memo.specs.Memos.{Memory}
use Rattle.mx_vertices.proofs.Statics.{leads}
use Rattle.mx_vertices.proofs.Takers.{key_takers}
use Rattle.mx_memo.proofs.memo.Memo.readers.Goals as goal

pub of_key-requires-clause-live : goal.of_key-requires-clause-live
of_key-requires-clause-live c =
    subst (λ (xs : List Slot). AreKeysLive c.self.inside.graph.nodes xs) (sym c.deref.ensures.value)
    (keys_live c.self.inside.graph.nodes c.self.inside.slots.items c.self.inside.keys.items c.self.invariant.whole.placed.keys_in)

pub of_key-requires-clause-watched : goal.of_key-requires-clause-watched
of_key-requires-clause-watched c = subst (λ (xs : List Slot). AreWatched (look_up key_eq c.self.inside.table.keys) xs) (sym c.deref.ensures.value) c.self.invariant.found.keys

pub of_key-requires-clause-found : goal.of_key-requires-clause-found
of_key-requires-clause-found c =
    subst (λ (xs : List Slot). LeadsTo (look_up node_eq c.self.inside.table.nodes) xs) (sym c.deref.ensures.value)
    (leads (look_up node_eq c.self.inside.table.nodes) c.self.inside.graph.nodes c.self.inside.slots.items c.self.inside.order.items c.self.invariant.whole.placed.nodes_in c.self.invariant.found.nodes)

pub returns : goal.returns
returns c =
    let all : AreAllReaders c.self.inside.slots.items c.self.inside.graph.edges c.args.key.now c.of_key.result
    = subst (λ (xs : List Slot). AreAllReaders xs c.self.inside.graph.edges c.args.key.now c.of_key.result) c.deref.ensures.value c.of_key.ensures in
    subst (λ (m : Memory). AreTakers m.held (looked c.args.key.now) c.of_key.result) c.self.view_is
    (subst (λ (ids : List NodeId). AreTakers (entries c.self.inside.graph.edges c.self.inside.slots.items 0 c.self.inside.order.items) (looked c.args.key.now) ids) (sym all.all)
    (key_takers c.self.inside.graph c.self.inside.slots.items c.self.inside.order.items c.self.inside.keys.items c.self.invariant.whole c.relation.ensures c.args.key.now all.readers all.own all.readers_are all.own_is))
