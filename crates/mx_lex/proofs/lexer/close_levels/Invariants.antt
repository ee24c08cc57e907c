use Rattle.std.proofs.Common.{◌≡◌, ◌++◌, reverse, vec_len}
use Rattle.mx_lex.specs.Lexing.{dedents_at}
use Rattle.mx_lex.proofs.lexer.close_levels.Given as goal

abbrev pub invariant-loop-level : goal.invariant-loop-level
invariant-loop-level l = l.tokens ++ dedents_at l.at (reverse l.stack.items) ≡ l.fn.tokens ++ dedents_at l.at (reverse l.fn.stack.items)

abbrev pub decreases-loop-level : goal.decreases-loop-level
decreases-loop-level l = vec_len l.stack
