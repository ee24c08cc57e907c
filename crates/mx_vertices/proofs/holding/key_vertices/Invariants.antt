use Rattle.std.proofs.Common.{◌≡◌, ℕ, map as map_list}
use Rattle.std.specs.Prelude.{take}
use Rattle.mx_vertices.specs.declared.slot.Slot.TheVariants.{Free}
use Rattle.mx_vertices.specs.Places.{slot_at}
use Rattle.mx_vertices.specs.Kept.{IsWhole, looked, entries}
use Rattle.std.specs.HashMap.{get as look_up}
use Rattle.mx_edit.specs.Equality.{key_eq}
use Rattle.mx_vertices.specs.Found.{AreWatched}
use Rattle.mx_vertices.specs.Held.{sources_of, AreThere}
use Rattle.mx_vertices.proofs.holding.key_vertices.Given as goal

abbrev pub invariant-loop-key : goal.invariant-loop-key
invariant-loop-key l = record {
  whole : IsWhole l.graph l.slots.items l.order l.keys.items;
  watched : AreWatched (look_up key_eq l.table) l.slots.items;
  same : entries l.graph.edges l.slots.items 0 l.order ≡ entries l.fn.graph.edges l.fn.slots.items 0 l.order;
  stays : (q : ℕ) → (slot_at l.fn.slots.items q ≡ Free → ⊥) → slot_at l.slots.items q ≡ slot_at l.fn.slots.items q;
  sources : sources_of l.slots.items l.sources.items ≡ map_list looked (take l.key-index l.wanted);
  there : AreThere l.slots.items l.sources.items;
}
