use Rattle.std.proofs.Common.{◌≡◌, length}
use Rattle.mx_grammar.specs.Reading.{listed}
use Rattle.mx_grammar.specs.LiteralParsers.{literal}
use Rattle.mx_grammar.proofs.literal.Literals.listed.Given as goal

abbrev pub invariant-loop-close : goal.invariant-loop-close
invariant-loop-close g l = listed l.close (literal l.self.levels) l.found l.tokens ≡ listed l.close (literal l.self.levels) l.fn.found l.fn.tokens

abbrev pub decreases-loop-close : goal.decreases-loop-close
decreases-loop-close g l = length l.tokens
