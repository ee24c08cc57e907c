use Rattle.std.proofs.Common.{◌≤◌, length}
use Rattle.mx_host.proofs.files.read_all.Given as goal

-- no more was taken than the limit
abbrev pub invariant-loop : goal.invariant-loop
invariant-loop g l = length l.bytes.items ≤ l.limit
