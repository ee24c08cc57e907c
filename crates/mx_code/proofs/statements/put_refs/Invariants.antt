use Rattle.std.proofs.Common.{◌≡◌, ◌++◌, drop, reverse}
use Rattle.mx_code.specs.Statements.{refs_code}
use Rattle.mx_code.proofs.statements.put_refs.Given as goal

abbrev pub invariant-loop-i : goal.invariant-loop-i
invariant-loop-i l = reverse l.code.items ≡ refs_code (drop l.i l.refs) l.scope l.line ++ reverse l.fn.code.items
