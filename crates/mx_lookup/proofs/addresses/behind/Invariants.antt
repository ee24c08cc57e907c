use Rattle.std.proofs.Common.{◌≡◌, ◌≤◌, drop, length}
use Rattle.mx_meaning.specs.References.{behind}
use Rattle.mx_lookup.proofs.addresses.behind.Given as goal

abbrev pub invariant-loop-at : goal.invariant-loop-at
invariant-loop-at l = record {
  same : behind l.front l.path ≡ behind (drop l.at l.front) (drop l.at l.path);
  within : l.at ≤ length l.path;
}
