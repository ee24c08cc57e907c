use Rattle.std.proofs.Common.{rules, refl, inl}
use Rattle.mx_grammar.proofs.Answering.{found_read, text_of_slice, found_refused}
use Rattle.mx_expression.proofs.ExpressionRules.{expressions}
use Rattle.mx_expression.specs.Expressions.{expression_text}
use Rattle.mx_parse.specs.FormulaLimits.{expression_limits}
use Rattle.mx_parse.proofs.Limiting.{too_many, unprinted}
use Rattle.mx_parse.proofs.parse.read_expression.Goals as goal

pub refusal-requires : goal.refusal-requires
refusal-requires c = text_of_slice _ _ expressions _ _ _ _ _ c.in_ok-source.ensures.opened c.as_slice.ensures c.as_slice-in-Err.ensures _ c.in-Err.ensures

pub returns-in-Err : goal.returns-in-Err
returns-in-Err c = λ memory. inl (found_refused _ _ expressions _ _ _ _ _ c.in_ok-source.ensures.opened c.as_slice.ensures c.as_slice-in-Err.ensures _ c.in-Err.ensures _ c.refusal.ensures memory)

pub returns-then-not-expression_within : goal.returns-then-not-expression_within
returns-then-not-expression_within c = λ _. too_many expression_text expression_limits _ _ (found_read _ _ expressions _ _ _ _ c.in_ok-source.ensures.opened c.as_slice.ensures _ c.in-Ok.ensures) (search rules)

pub returns : goal.returns
returns c = λ _. unprinted expression_text expression_limits _ _ (found_read _ _ expressions _ _ _ _ c.in_ok-source.ensures.opened c.as_slice.ensures _ c.in-Ok.ensures) (search rules) refl
