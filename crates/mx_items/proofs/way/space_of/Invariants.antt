use Rattle.std.proofs.Common.{◌≡◌, take, drop}
use Rattle.mx_items.specs.Way.{along, space_at}
use Rattle.mx_items.specs.Stretch.{here}
use Rattle.mx_items.proofs.way.space_of.Given as goal

abbrev pub invariant-loop-place : goal.invariant-loop-place
invariant-loop-place g l = along (g.S.ItemNamespaces.held l.items) (take l.place l.segments) (here l.way) (drop l.place l.segments) ≡ space_at (g.S.ItemNamespaces.held l.items) l.segments
