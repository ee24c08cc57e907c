use Rattle.std.proofs.Common.{◌≡◌, ◌++◌, drop, reverse}
use Rattle.mx_code.specs.Statements.{entries_code}
use Rattle.mx_code.proofs.statements.put_entries.Given as goal

abbrev pub invariant-loop-i : goal.invariant-loop-i
invariant-loop-i l = reverse l.code.items ≡ entries_code (drop l.i l.entries) l.scope l.line ++ reverse l.fn.code.items
