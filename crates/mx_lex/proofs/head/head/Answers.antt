use Rattle.std.proofs.Common.{sym, ◌∙◌, arith}
use Rattle.mx_lex.proofs.SpanBounds.{span_len}
use Rattle.mx_lex.proofs.head.head.Goals as goal

-- a token is within the source
pub overflow_cast-result : goal.overflow_cast-result
overflow_cast-result c =
    let w = span_len c.args.at c.args.rest.now _ (sym c.span.ensures ∙ c.in_ok-span-in_default-first.was) in
    omega (arith, w.within)
