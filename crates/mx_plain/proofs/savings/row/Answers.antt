use Rattle.std.proofs.Common.{◌∙◌, ap, [], ◌∷◌}
use Rattle.mx_plain.specs.declared.base.Month.{Month}
use Rattle.mx_plain.specs.declared.savings.Account.{Account}
use Rattle.mx_plain.specs.declared.savings.Flows.{Flows}
use Rattle.mx_plain.specs.Savings.{row}
use Rattle.mx_plain.proofs.savings.row.Goals as goal

pub returns : goal.returns
unfolding row
returns c p t m a f =
    let n1 = c.copied.ensures ∙ ap (λ (x : Month). x.opening.pols_if) m in
    let n2 = c.copied-2.ensures ∙ ap (λ (x : Account). x.av_pp) a in
    let n3 = c.copied-3.ensures ∙ ap (λ (x : Flows). x.premiums) f in
    let n4 = c.copied-4.ensures ∙ ap (λ (x : Flows). x.claims) f in
    let n5 = c.copied-5.ensures ∙ ap (λ (x : Flows). x.surrenders) f in
    let n6 = c.copied-6.ensures ∙ ap (λ (x : Flows). x.maturities) f in
    let n7 = c.copied-7.ensures ∙ ap (λ (x : Month). x.expenses) m in
    let n8 = c.copied-8.ensures ∙ ap (λ (x : Flows). x.commissions) f in
    let n9 = c.copied-9.ensures ∙ ap (λ (x : Flows). x.net_cf) f in
    λ i. n1 i ∷ n2 i ∷ n3 i ∷ n4 i ∷ n5 i ∷ n6 i ∷ n7 i ∷ n8 i ∷ n9 i ∷ []
