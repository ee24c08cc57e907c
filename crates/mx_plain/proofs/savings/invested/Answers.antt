use Rattle.std.proofs.Common.{◌∙◌, ap, Ok, Result, ℤ}
use Rattle.mx_value.specs.declared.fixed.NumFault.{NumFault}
use Rattle.mx_plain.specs.declared.base.Month.{Month}
use Rattle.mx_plain.specs.Figures.{joined, Minus, Times, Larger}
use Rattle.mx_plain.proofs.savings.invested.Goals as goal

pub returns : goal.returns
returns c t x m v =
    let mort = ap (λ (y : Month). y.mort_rate_mth) m in
    let fee = c.times-fee.ensures ∙ ap (λ (r : Result ℤ NumFault). joined Times r (Ok c.args.policy.now.fee_rate)) v in
    let short = c.minus.ensures ∙ ap (λ (r : Result ℤ NumFault). joined Minus (Ok c.args.policy.now.sum_assured) r) v in
    let risk = c.larger-at_risk.ensures ∙ (λ i. joined Larger (short i) (c.decimal.ensures i)) in
    let coi = c.times-coi.ensures ∙ (λ i. joined Times (risk i) (mort i)) in
    let rest = c.minus-2.ensures ∙ (λ i. joined Minus (v i) (fee i)) in
    c.minus-3.ensures ∙ (λ i. joined Minus (rest i) (coi i))
