use Rattle.std.proofs.Common.{◌≡◌, [], length}
use Rattle.mx_parse.specs.StatementParsers.{statements}
use Rattle.mx_parse.specs.Insides.{expression_in, display_in, body_in}
use Rattle.mx_parse.proofs.statement.Statements.statements.Given as goal

abbrev pub invariant-loop-found : goal.invariant-loop-found
invariant-loop-found g l = statements (expression_in l.self.inside) (display_in l.self.inside) (body_in l.self.inside l.self.levels) l.found l.tokens ≡ statements (expression_in l.self.inside) (display_in l.self.inside) (body_in l.self.inside l.self.levels) [] l.fn.tokens

abbrev pub decreases-loop-found : goal.decreases-loop-found
decreases-loop-found g l = length l.tokens
