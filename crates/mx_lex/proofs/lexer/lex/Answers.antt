use Rattle.std.proofs.Common.{◌<◌, length, sym, ap, ◌∙◌, Ok, arith}
use Rattle.std.proofs.lemmas.Result.{err_from_is_err_and}
use Rattle.mx_lex.proofs.Loop.{reads_more, reads_failed, reads_all, went_bounded, tokens_of_short}
use Rattle.mx_lex.proofs.lexer.lex.Goals as goal

pub returns-in_err-taken-clause-trouble : goal.returns-in_err-taken-clause-trouble
returns-in_err-taken-clause-trouble c =
    let p = err_from_is_err_and c.from_residual-in_err-taken.result c.from_residual-in_err-taken.ensures.1 in
    let some : 0 < length c.split_at.result.1.now = omega arith in
    rw (p.1, p.2) (λ other. tokens_of_short c.args.source.now (omega arith)
    ∙ reads_failed c.args.source.now c.split_at.result.1.now c.loop-at.tokens c.loop-at.at c.loop-at.line c.loop-at.stack.items c.in_err-taken.field-0.0 c.loop-at.invariant c.split_at.ensures.back some (c.in_err-taken.ensures other))

pub overflow_add-at : goal.overflow_add-at
overflow_add-at c =
    let b = went_bounded c.split_at.result.1.now c.loop-at.tokens c.loop-at.at c.loop-at.line c.loop-at.stack.items c.step.new.stack.items c.step.new.tokens c.in_ok-taken.taken c.in_ok-taken.next c.in_ok-taken.ensures in
    omega (arith, b.within)

pub loop-at-smaller : goal.loop-at-smaller
loop-at-smaller c =
    let b = went_bounded c.split_at.result.1.now c.loop-at.tokens c.loop-at.at c.loop-at.line c.loop-at.stack.items c.step.new.stack.items c.step.new.tokens c.in_ok-taken.taken c.in_ok-taken.next c.in_ok-taken.ensures in
    let some : 0 < length c.split_at.result.1.now = omega arith in
    let taken : 0 < c.in_ok-taken.taken = b.some some in
    omega (arith, b.within)

pub loop-at-preserved : goal.loop-at-preserved
loop-at-preserved c =
    let some : 0 < length c.split_at.result.1.now = omega arith in
    reads_more c.args.source.now c.split_at.result.1.now c.loop-at.tokens c.loop-at.at c.loop-at.line c.loop-at.stack.items c.step.new.stack.items c.step.new.tokens c.in_ok-taken.taken c.in_ok-taken.next c.loop-at.invariant c.split_at.ensures.back some c.in_ok-taken.ensures

pub returns-clause-tokens : goal.returns-clause-tokens
returns-clause-tokens c =
    tokens_of_short c.args.source.now (omega arith)
    ∙ reads_all c.args.source.now c.loop-at.tokens c.loop-at.at c.loop-at.line c.loop-at.stack.items c.loop-at.invariant c.loop-at-test.false
    ∙ ap (λ ts. Ok ts) (sym c.in_ok-close.ensures.ok)
