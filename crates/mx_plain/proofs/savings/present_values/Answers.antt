use Rattle.std.proofs.Common.{◌∙◌, ap, [], ◌∷◌}
use Rattle.mx_plain.specs.declared.savings.Sums.{Sums}
use Rattle.mx_plain.specs.Figures.{joined, Minus}
use Rattle.mx_plain.specs.Savings.{pv}
use Rattle.mx_plain.proofs.savings.present_values.Goals as goal

pub returns : goal.returns
unfolding pv
returns c p s =
    let k = c.minus.ensures ∙ (λ i. joined Minus ((s i).premiums) ((s i).claims)) in
    let l = c.minus-benefits.ensures ∙ (λ i. joined Minus (k i) ((s i).surrenders)) in
    let m = c.minus-2.ensures ∙ (λ i. joined Minus (l i) ((s i).maturities)) in
    let o = c.minus-left.ensures ∙ (λ i. joined Minus (m i) ((s i).expenses)) in
    let net = c.minus-3.ensures ∙ (λ i. joined Minus (o i) ((s i).commissions)) in
    let n1 = c.copied.ensures ∙ ap (λ (x : Sums). x.pols_if) s in
    let n3 = c.copied-2.ensures ∙ ap (λ (x : Sums). x.premiums) s in
    let n4 = c.copied-3.ensures ∙ ap (λ (x : Sums). x.claims) s in
    let n5 = c.copied-4.ensures ∙ ap (λ (x : Sums). x.surrenders) s in
    let n6 = c.copied-5.ensures ∙ ap (λ (x : Sums). x.maturities) s in
    let n7 = c.copied-6.ensures ∙ ap (λ (x : Sums). x.expenses) s in
    let n8 = c.copied-7.ensures ∙ ap (λ (x : Sums). x.commissions) s in
    λ i. n1 i ∷ c.decimal.ensures i ∷ n3 i ∷ n4 i ∷ n5 i ∷ n6 i ∷ n7 i ∷ n8 i ∷ net i ∷ []
