use Rattle.std.proofs.Common.{rules}
use Rattle.mx_expression.proofs.ManyCode.{part_fails, part_more, parts_end}
use Rattle.mx_parse.proofs.Insides.{elif_takes}
use Rattle.mx_parse.proofs.statement.Statements.elifs.Goals as goal

pub returns-in_err-elif : goal.returns-in_err-elif
returns-in_err-elif g c = part_fails _ _ _ (elif_takes c.args.self.now.inside c.args.self.now.levels) _ _ _ c.loop-arms.invariant _ _ _ c.from_residual.ensures.1 (search rules) c.in_err-elif.ensures

pub loop-arms-smaller : goal.loop-arms-smaller
loop-arms-smaller g c = elif_takes c.args.self.now.inside c.args.self.now.levels _ _ _ c.in_ok-elif.ensures

pub loop-arms-preserved : goal.loop-arms-preserved
loop-arms-preserved g c = part_more _ _ _ (elif_takes c.args.self.now.inside c.args.self.now.levels) _ _ _ c.loop-arms.invariant _ _ _ (search rules) (search rules) c.in_ok-elif.ensures

pub returns : goal.returns
returns g c = parts_end _ _ _ (elif_takes c.args.self.now.inside c.args.self.now.levels) _ _ _ c.loop-arms.invariant (search rules)
