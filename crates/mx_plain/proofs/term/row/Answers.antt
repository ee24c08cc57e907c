use Rattle.std.proofs.Common.{◌∙◌, ap, [], ◌∷◌}
use Rattle.mx_plain.specs.declared.base.Month.{Month}
use Rattle.mx_plain.specs.declared.term.Flows.{Flows}
use Rattle.mx_plain.specs.Term.{row}
use Rattle.mx_plain.proofs.term.row.Goals as goal

pub returns : goal.returns
unfolding row
returns c p t m f =
    let a = c.copied.ensures ∙ ap (λ (x : Month). x.opening.pols_if) m in
    let b = c.copied-2.ensures ∙ ap (λ (x : Flows). x.premiums) f in
    let d = c.copied-3.ensures ∙ ap (λ (x : Flows). x.claims) f in
    let e = c.copied-4.ensures ∙ ap (λ (x : Month). x.expenses) m in
    let g = c.copied-5.ensures ∙ ap (λ (x : Flows). x.commissions) f in
    let h = c.copied-6.ensures ∙ ap (λ (x : Flows). x.net_cf) f in
    λ i. a i ∷ b i ∷ d i ∷ e i ∷ g i ∷ h i ∷ []
