use Rattle.std.proofs.Common.{sym, refl, arith}
use Rattle.mx_lex.specs.Spans.{digits_from}
use Rattle.mx_lex.proofs.Digits.{past_limit, not_at_most}
use Rattle.mx_tables.proofs.number.at_most.Goals as goal

pub returns-then-value-limit : goal.returns-then-value-limit
returns-then-value-limit c =
    let past = past_limit c.args.digits.now c.loop-b.b-index c.loop-b.value c.args.limit c.loop-b-test.true (rw (← c.from-digit.ensures) c.if-value-limit.true) in
    let over = sym (not_at_most (digits_from 0 c.args.digits.now) c.args.limit (omega (arith, c.loop-b.invariant.spelled, past))) in
    rw over refl
