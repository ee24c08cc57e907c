-- How items are held once each.
use Rattle.std.specs.Prelude.{◌≡◌, Bool, List, []}
use Rattle.indexmap.specs.IndexSet.{insert_all}
use Rattle.mx_read_set.specs.declared.distinct.Held.{Held}
use Rattle.mx_read_set.specs.declared.distinct.Held.TheVariants.{Few, Many}

-- the items
abbrev pub items_of : {T : Type 0} → Held T → List T
items_of (Few items) = items.items
items_of (Many set) = set.value.keys

-- those that are looked through are each there once
abbrev pub IsEachOnce : {T : Type 0} → (T → T → Bool) → Held T → Type 0
IsEachOnce eq (Few items) = insert_all eq [] items.items ≡ items.items
IsEachOnce eq (Many set) = Unit {0}
