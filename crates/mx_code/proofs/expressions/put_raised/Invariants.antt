use Rattle.std.proofs.Common.{◌≡◌, ◌++◌, take, map, reverse}
use Rattle.mx_code.specs.Expressions.{signs_of, raised_code}
use Rattle.mx_code.specs.Parts.{power_code}
use Rattle.mx_code.proofs.expressions.put_raised.Given as goal

abbrev pub invariant-loop-i : goal.invariant-loop-i
invariant-loop-i l = reverse l.code.items ≡ raised_code (map signs_of (map power_code (take l.i l.parts))) l.line ++ reverse l.fn.code.items
