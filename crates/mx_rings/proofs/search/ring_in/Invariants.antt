use Rattle.std.proofs.Common.{◌≡◌, ◌<◌, []}
use Rattle.mx_c3.specs.declared.space.SpaceId.{SpaceId}
use Rattle.mx_rings.specs.Search.{IsSearch, IsSeen}
use Rattle.mx_rings.proofs.search.ring_in.Given as goal

abbrev pub invariant-loop-place : goal.invariant-loop-place
invariant-loop-place l = IsSearch l.graph l.search × (l.search.way.items ≡ []) × ((x : SpaceId) → x.0 < l.place → IsSeen l.search x)
