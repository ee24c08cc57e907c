use Rattle.std.proofs.Common.{◌≡◌, reverse, vec_len}
use Rattle.mx_lex.specs.Lines.{given_before, dedented}
use Rattle.mx_lex.proofs.stack.dedent.Given as goal

abbrev pub invariant-loop-top : goal.invariant-loop-top
invariant-loop-top l = given_before l.tokens (dedented l.at l.line l.indent (reverse l.stack.items)) ≡ given_before l.fn.tokens (dedented l.at l.line l.indent (reverse l.fn.stack.items))

abbrev pub decreases-loop-top : goal.decreases-loop-top
decreases-loop-top l = vec_len l.stack
