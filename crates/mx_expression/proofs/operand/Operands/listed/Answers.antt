use Rattle.std.proofs.Common.{rules, sym, ap, ◌∙◌, ◌≡◌, ◌++◌, ◌∷◌, []}
use Rattle.mx_grammar.specs.Reading.{behind, expect}
use Rattle.mx_grammar.proofs.LoopCode.{listed_closed, listed_item_err, listed_more, listed_last, listed_end_err, listed_shorter}
use Rattle.mx_expression.specs.ExpressionParsers.{expression}
use Rattle.mx_expression.proofs.ManyCode.{reads_err}
use Rattle.mx_expression.proofs.OperandCode.{inside_within}
use Rattle.mx_expression.proofs.operand.Operands.listed.Goals as goal

pub returns-in_err-inside : goal.returns-in_err-inside
returns-in_err-inside g c =
    let here : c.eat.new.self ≡ c.loop-close.tokens = search rules in
    reads_err _ _ _ _ c.from_residual.ensures.1 (λ n. sym c.loop-close.invariant ∙ listed_item_err c.args.close _ (inside_within c.args.self.now.levels) _ _ _ (search rules) (ap (expression c.args.self.now.levels) (sym here) ∙ c.in_err-inside.ensures n))

pub returns-in_err-expect : goal.returns-in_err-expect
returns-in_err-expect g c =
    let here : c.eat.new.self ≡ c.loop-close.tokens = search rules in
    let there : c.eat-in-loop-close.new.self ≡ c.inside.new.tokens = search rules in
    reads_err _ _ _ _ c.from_residual-in_err-expect.ensures.1 (λ n. sym c.loop-close.invariant ∙ listed_end_err c.args.close _ (inside_within c.args.self.now.levels) _ _ _ _ _ (search rules) (ap (expression c.args.self.now.levels) (sym here) ∙ c.in_ok-inside.ensures) (search rules) (ap (expect c.args.close) (sym there) ∙ c.in_err-expect.ensures n))

pub returns-then-not-eat : goal.returns-then-not-eat
returns-then-not-eat g c =
    let here : c.eat.new.self ≡ c.loop-close.tokens = search rules in
    let there : c.eat-in-loop-close.new.self ≡ c.inside.new.tokens = search rules in
    let pushed : c.push.new.self ≡ c.loop-close.found ++ c.in_ok-inside.field-0 ∷ [] = search rules in
    rw pushed (sym c.loop-close.invariant ∙ listed_last c.args.close _ (inside_within c.args.self.now.levels) _ _ _ _ _ tt (search rules) (ap (expression c.args.self.now.levels) (sym here) ∙ c.in_ok-inside.ensures) (search rules) (ap (expect c.args.close) (sym there) ∙ c.in_ok-expect.ensures))

pub loop-close-smaller : goal.loop-close-smaller
loop-close-smaller g c =
    let here : c.eat.new.self ≡ c.loop-close.tokens = search rules in
    let there : c.eat-in-loop-close.new.self ≡ behind c.inside.new.tokens = search rules in
    rw there (listed_shorter c.args.close _ (inside_within c.args.self.now.levels) _ _ _ (ap (expression c.args.self.now.levels) (sym here) ∙ c.in_ok-inside.ensures) (search rules))

pub loop-close-preserved : goal.loop-close-preserved
loop-close-preserved g c =
    let here : c.eat.new.self ≡ c.loop-close.tokens = search rules in
    let there : c.eat-in-loop-close.new.self ≡ behind c.inside.new.tokens = search rules in
    let pushed : c.push.new.self ≡ c.loop-close.found ++ c.in_ok-inside.field-0 ∷ [] = search rules in
    rw (there, pushed) (sym (listed_more c.args.close _ (inside_within c.args.self.now.levels) _ _ _ _ (search rules) (ap (expression c.args.self.now.levels) (sym here) ∙ c.in_ok-inside.ensures) (search rules)) ∙ c.loop-close.invariant)

pub returns : goal.returns
returns g c =
    let past : c.eat.new.self ≡ behind c.loop-close.tokens = search rules in
    rw past (sym c.loop-close.invariant ∙ listed_closed c.args.close _ (inside_within c.args.self.now.levels) _ _ (search rules))
