use Rattle.std.proofs.Common.{ℕ, ◌<◌, ◌+◌, length, drop, reverse, Option, sym, ap, ◌∙◌, arith}
use Rattle.std.proofs.lemmas.Result.{err_from_is_err_and}
use Rattle.mx_lex.specs.Lexing.{Reading, Step, step_at}
use Rattle.mx_lex.proofs.Loop.{went_bounded}
use Rattle.mx_lex.specs.Fronts.{place_among, or_further, front_from}
use Rattle.mx_lex.proofs.FrontLoop.{emptied, seeks_step, seeks_more, seeks_failed, seeks_all, front_of_short}
use Rattle.mx_lex.proofs.front.front_of.Goals as goal

pub returns-in_err-taken-clause-trouble : goal.returns-in_err-taken-clause-trouble
returns-in_err-taken-clause-trouble c =
    let p = err_from_is_err_and c.from_residual-in_err-taken.result c.from_residual-in_err-taken.ensures.1 in
    let some : 0 < length c.split_at.result.1.now = omega arith in
    rw (p.1, p.2) (λ other. front_of_short c.args.source.now c.args.mark (omega arith)
    ∙ seeks_failed c.args.source.now c.args.mark c.split_at.result.1.now c.loop-at.at c.loop-at.line c.loop-at.stack.items c.in_err-taken.field-0.0 c.loop-at.invariant c.split_at.ensures.back some (c.in_err-taken.ensures other))

pub returns-in-Some-clause-front : goal.returns-in-Some-clause-front
returns-in-Some-clause-front c =
    let reading : Reading = record { line = c.loop-at.line; stack = reverse c.loop-at.stack.items } in
    let went : Step = record { given = c.step.new.tokens; taken = c.in_ok-taken.taken; next = record { line = c.in_ok-taken.next; stack = reverse c.step.new.stack.items } } in
    let ok = emptied c.truncate.new.self (step_at c.loop-at.at reading c.split_at.result.1.now) went c.truncate.ensures c.in_ok-taken.ensures in
    let some : 0 < length c.split_at.result.1.now = omega arith in
    let place = ap (place_among c.args.source.now c.args.mark) (sym c.as_slice.ensures) ∙ sym c.place_among.ensures ∙ c.in-Some.is in
    let further = front_from c.args.source.now c.args.mark (drop c.in_ok-taken.taken c.split_at.result.1.now) 0 (c.loop-at.at + c.in_ok-taken.taken) went.next in
    front_of_short c.args.source.now c.args.mark (omega arith)
    ∙ seeks_step c.args.source.now c.args.mark c.split_at.result.1.now c.loop-at.at c.loop-at.line c.loop-at.stack.items c.step.new.stack.items c.step.new.tokens c.in_ok-taken.taken c.in_ok-taken.next c.loop-at.invariant c.split_at.ensures.back some ok
    ∙ ap (λ (o : Option ℕ). or_further o further) place

pub overflow_add-at : goal.overflow_add-at
overflow_add-at c =
    let b = went_bounded c.split_at.result.1.now c.truncate.new.self c.loop-at.at c.loop-at.line c.loop-at.stack.items c.step.new.stack.items c.step.new.tokens c.in_ok-taken.taken c.in_ok-taken.next c.in_ok-taken.ensures in
    omega (arith, b.within)

pub loop-at-smaller : goal.loop-at-smaller
loop-at-smaller c =
    let b = went_bounded c.split_at.result.1.now c.truncate.new.self c.loop-at.at c.loop-at.line c.loop-at.stack.items c.step.new.stack.items c.step.new.tokens c.in_ok-taken.taken c.in_ok-taken.next c.in_ok-taken.ensures in
    let some : 0 < length c.split_at.result.1.now = omega arith in
    let taken : 0 < c.in_ok-taken.taken = b.some some in
    omega (arith, b.within)

pub loop-at-preserved : goal.loop-at-preserved
loop-at-preserved c =
    let reading : Reading = record { line = c.loop-at.line; stack = reverse c.loop-at.stack.items } in
    let went : Step = record { given = c.step.new.tokens; taken = c.in_ok-taken.taken; next = record { line = c.in_ok-taken.next; stack = reverse c.step.new.stack.items } } in
    let ok = emptied c.truncate.new.self (step_at c.loop-at.at reading c.split_at.result.1.now) went c.truncate.ensures c.in_ok-taken.ensures in
    let some : 0 < length c.split_at.result.1.now = omega arith in
    let none = ap (place_among c.args.source.now c.args.mark) (sym c.as_slice.ensures) ∙ sym c.place_among.ensures ∙ c.in_default.is in
    seeks_more c.args.source.now c.args.mark c.split_at.result.1.now c.loop-at.at c.loop-at.line c.loop-at.stack.items c.step.new.stack.items c.step.new.tokens c.in_ok-taken.taken c.in_ok-taken.next c.loop-at.invariant c.split_at.ensures.back some ok none

pub returns-clause-front : goal.returns-clause-front
returns-clause-front c =
    front_of_short c.args.source.now c.args.mark (omega arith)
    ∙ seeks_all c.args.source.now c.args.mark c.loop-at.at c.loop-at.line c.loop-at.stack.items c.loop-at.invariant c.loop-at-test.false
