use Rattle.std.proofs.Common.{◌≡◌, length, []}
use Rattle.mx_grammar.specs.Reading.{turning}
use Rattle.mx_expression.specs.ExpressionParsers.{expression}
use Rattle.mx_parse.specs.DisplayParsers.{entry_turn, entries}
use Rattle.mx_parse.proofs.display.entries.Given as goal

abbrev pub invariant-loop-found : goal.invariant-loop-found
invariant-loop-found l = turning (entry_turn (expression l.levels)) l.found l.tokens ≡ entries (expression l.levels) [] l.fn.tokens

abbrev pub decreases-loop-found : goal.decreases-loop-found
decreases-loop-found l = length l.tokens
