use Rattle.std.proofs.Common.{◌<◌, ◌≤◌, take}
use Rattle.mx_c3.specs.declared.space.SpaceId.{SpaceId}
use Rattle.mx_c3.specs.Lists.{Has}
use Rattle.mx_c3.proofs.counts.bound_of.Given as goal

abbrev pub invariant-loop-space : goal.invariant-loop-space
invariant-loop-space l = record {
  least : l.least ≤ l.bound;
  above : (x : SpaceId) → Has (take l.space-index l.spaces) x → x.0 < l.bound;
}
