use Rattle.std.proofs.Common.{sym, ◌∙◌, arith, reverse}
use Rattle.mx_lex.proofs.StepBounds.{head_is_bounded}
use Rattle.mx_lex.proofs.Gaps.{gap_advances}
use Rattle.mx_lex.proofs.lexer.step.Goals as goal

-- no more is taken than is left
pub overflow_add-result : goal.overflow_add-result
overflow_add-result c =
    let bounded = head_is_bounded _ _ _ _ (sym c.head.ensures ∙ c.in_ok-head.was) in
    omega (arith, bounded.within)

-- a space inside a line is answered as all else is
pub returns-then-is_gap : goal.returns-then-is_gap
returns-then-is_gap c =
    gap_advances c.args.tokens.now c.args.at c.args.line (reverse c.args.stack.now.items) c.args.rest.now (sym c.is_gap.ensures ∙ c.if-is_gap.true)
