use Rattle.std.proofs.Common.{rules, arith, sym, ap}
use Rattle.std.proofs.lemmas.Grind.{common_steps}
use Rattle.mx_syntax.specs.declared.expr.Expr.{Expr}
use Rattle.mx_grammar.specs.Reading.{Outcome, and_then, ◌>>=◌, pure}
use Rattle.mx_expression.specs.ChainParsers.{armed, unarmed, conditional_of, conditional}
use Rattle.mx_expression.specs.ExpressionParsers.{ors, expression}
use Rattle.mx_expression.proofs.ChainCode.{choice_shorter, arms_more, arms_fail, arms_end}
use Rattle.mx_expression.proofs.operand.Operands.inside.Goals as goal

pub returns-in_err-last : goal.returns-in_err-last
unfolding expression conditional
returns-in_err-last g c = first_of (search rules, grind (arith, common_steps))

pub loop-tokens-init : goal.loop-tokens-init
unfolding expression conditional
loop-tokens-init g c = rw c.new-arms.ensures (sym (ap (λ (o : Outcome Expr). and_then o (λ x. armed (ors c.args.self.now.levels) (unarmed x) >>= λ s. pure (conditional_of s.arms s.last))) c.in_ok-last.ensures))

pub returns-in_err-test : goal.returns-in_err-test
returns-in_err-test g c = arms_fail c.args.self.now.levels _ _ _ _ c.loop-tokens.invariant _ _ _ c.from_residual-in_err-test.ensures.1 (search rules) c.in_err-test.ensures

pub loop-tokens-smaller : goal.loop-tokens-smaller
loop-tokens-smaller g c = choice_shorter c.args.self.now.levels _ _ _ c.in_ok-test.ensures

pub loop-tokens-preserved : goal.loop-tokens-preserved
loop-tokens-preserved g c = rw c.in_ok-push.ensures.ok (arms_more c.args.self.now.levels _ _ _ _ c.loop-tokens.invariant (c.in_ok-test.test, c.in_ok-test.value) _ (search rules) c.in_ok-test.ensures)

pub returns : goal.returns
returns g c = arms_end c.args.self.now.levels _ _ _ _ c.loop-tokens.invariant _ c.in_ok-conditional.ensures (search rules)
