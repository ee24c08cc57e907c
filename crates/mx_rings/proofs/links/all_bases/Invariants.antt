use Rattle.std.proofs.Common.{◌≡◌, take}
use Rattle.mx_model.specs.Layers.{base_lists}
use Rattle.mx_rings.proofs.links.all_bases.Given as goal

abbrev pub invariant-loop-place : goal.invariant-loop-place
invariant-loop-place l = l.lists.items ≡ take l.place (base_lists l.text)
