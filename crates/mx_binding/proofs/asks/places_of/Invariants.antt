use Rattle.std.proofs.Common.{◌≡◌, [], drop, map, nat_eq}
use Rattle.indexmap.specs.IndexSet.{insert_all}
use Rattle.mx_vertices.specs.Reading.{id_at}
use Rattle.mx_binding.proofs.asks.places_of.Given as goal

abbrev pub invariant-loop-id : goal.invariant-loop-id
invariant-loop-id l = insert_all nat_eq l.places.keys (map id_at (drop l.id-index l.ids)) ≡ insert_all nat_eq [] (map id_at l.ids)
