use Rattle.std.proofs.Common.{◌≡◌, length}
use Rattle.mx_grammar.specs.Reading.{turning}
use Rattle.mx_grammar.specs.LiteralParsers.{literal}
use Rattle.mx_parse.specs.ParameterParsers.{param_turn, params}
use Rattle.mx_parse.proofs.parameter.params.Given as goal

abbrev pub invariant-loop-found : goal.invariant-loop-found
invariant-loop-found l = turning (param_turn (literal l.levels)) l.found l.tokens ≡ params (literal l.levels) l.fn.found l.fn.tokens

abbrev pub decreases-loop-found : goal.decreases-loop-found
decreases-loop-found l = length l.tokens
