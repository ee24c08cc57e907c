use Rattle.std.proofs.Common.{◌∙◌, ap, [], ◌∷◌}
use Rattle.mx_plain.specs.declared.term.Early.{Early}
use Rattle.mx_plain.specs.declared.term.Sums.{Sums}
use Rattle.mx_plain.specs.Figures.{joined, Minus}
use Rattle.mx_plain.specs.Term.{pv}
use Rattle.mx_plain.proofs.term.present_values.Goals as goal

pub returns : goal.returns
unfolding pv
returns c p e s =
    let k = c.minus.ensures ∙ (λ i. joined Minus ((s i).premiums) ((e i).claims)) in
    let l = c.minus-left.ensures ∙ (λ i. joined Minus (k i) ((s i).expenses)) in
    let net = c.minus-2.ensures ∙ (λ i. joined Minus (l i) ((s i).commissions)) in
    let a = c.copied.ensures ∙ ap (λ (x : Early). x.pols_if) e in
    let b = c.copied-2.ensures ∙ ap (λ (x : Sums). x.premiums) s in
    let d = c.copied-3.ensures ∙ ap (λ (x : Early). x.claims) e in
    let f = c.copied-4.ensures ∙ ap (λ (x : Sums). x.expenses) s in
    let g = c.copied-5.ensures ∙ ap (λ (x : Sums). x.commissions) s in
    λ i. a i ∷ b i ∷ d i ∷ f i ∷ g i ∷ net i ∷ []
