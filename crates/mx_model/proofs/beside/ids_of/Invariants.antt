use Rattle.std.proofs.Common.{◌≡◌, take}
use Rattle.std.specs.List.{filter_map}
use Rattle.mx_model.specs.Layers.{id_in}
use Rattle.mx_model.proofs.beside.ids_of.Given as goal

abbrev pub invariant-loop-base : goal.invariant-loop-base
invariant-loop-base l = l.ids.items ≡ filter_map (id_in l.paths) (take l.base-index l.bases)
