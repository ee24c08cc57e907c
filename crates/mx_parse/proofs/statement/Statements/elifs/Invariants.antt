use Rattle.std.proofs.Common.{◌≡◌, length}
use Rattle.mx_parse.specs.StatementParsers.{elifs}
use Rattle.mx_parse.specs.Insides.{expression_in, body_in}
use Rattle.mx_parse.proofs.statement.Statements.elifs.Given as goal

abbrev pub invariant-loop-arms : goal.invariant-loop-arms
invariant-loop-arms g l = elifs (expression_in l.self.inside) (body_in l.self.inside l.self.levels) l.arms l.tokens ≡ elifs (expression_in l.self.inside) (body_in l.self.inside l.self.levels) l.fn.found l.fn.tokens

abbrev pub decreases-loop-arms : goal.decreases-loop-arms
decreases-loop-arms g l = length l.tokens
