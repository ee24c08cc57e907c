use Rattle.std.proofs.Common.{arith, drop, get_or, ◌+◌, ◌*◌, ◌-◌}
use Rattle.mx_lex.proofs.Digits.{digits_from_grows, digits_from_more}
use Rattle.mx_grammar.proofs.words.value.Goals as goal

pub overflow_mul-value : goal.overflow_mul-value
overflow_mul-value c = omega (arith, digits_from_grows (drop c.loop-b.b-index c.args.digits.now) c.loop-b.value, digits_from_grows (drop (c.loop-b.b-index + 1) c.args.digits.now) (c.loop-b.value * 10 + (get_or c.args.digits.now c.loop-b.b-index 0 - 48)), digits_from_more c.args.digits.now c.loop-b.b-index c.loop-b.value c.loop-b-test.true, c.loop-b.invariant, c.requires.bound)

pub overflow_add-value : goal.overflow_add-value
overflow_add-value c = omega (arith, digits_from_grows (drop (c.loop-b.b-index + 1) c.args.digits.now) (c.loop-b.value * 10 + (get_or c.args.digits.now c.loop-b.b-index 0 - 48)), digits_from_more c.args.digits.now c.loop-b.b-index c.loop-b.value c.loop-b-test.true, c.loop-b.invariant, c.requires.bound, c.from.ensures)
