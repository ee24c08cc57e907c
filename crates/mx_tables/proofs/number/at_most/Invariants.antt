use Rattle.std.proofs.Common.{◌≡◌, ◌≤◌, drop}
use Rattle.mx_lex.specs.Spans.{digits_from}
use Rattle.mx_tables.proofs.number.at_most.Given as goal

abbrev pub invariant-loop-b : goal.invariant-loop-b
invariant-loop-b l = record { spelled : digits_from l.value (drop l.b-index l.digits) ≡ digits_from 0 l.digits; within : l.value ≤ l.limit }
