use Rattle.std.proofs.Common.{rules}
use Rattle.mx_parse.proofs.Insides.{turn_takes, statement_takes}
use Rattle.mx_parse.proofs.StatementLoops.{statement_fails, statement_more, statements_end}
use Rattle.mx_parse.proofs.statement.Statements.statements.Goals as goal

pub returns-in_err-statement : goal.returns-in_err-statement
returns-in_err-statement g c = statement_fails _ _ _ (turn_takes c.args.self.now.inside c.args.self.now.levels) _ _ _ c.loop-found.invariant _ _ _ c.from_residual.ensures.1 c.in_err-statement.ensures

pub returns-then-sees : goal.returns-then-sees
returns-then-sees g c = statements_end _ _ _ (turn_takes c.args.self.now.inside c.args.self.now.levels) _ _ _ c.loop-found.invariant _ _ _ _ tt (search rules) c.in_ok-statement.ensures (search rules) c.in_ok-expect.ensures

pub loop-found-smaller : goal.loop-found-smaller
loop-found-smaller g c = statement_takes c.args.self.now.inside c.args.self.now.levels _ _ _ c.in_ok-statement.ensures

pub loop-found-preserved : goal.loop-found-preserved
loop-found-preserved g c = statement_more _ _ _ (turn_takes c.args.self.now.inside c.args.self.now.levels) _ _ _ c.loop-found.invariant _ _ _ (search rules) c.in_ok-statement.ensures (search rules)
