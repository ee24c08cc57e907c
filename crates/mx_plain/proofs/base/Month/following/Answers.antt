use Rattle.std.proofs.Common.{◌≡◌, ◌∙◌, ℕ, suc, ap, add-one, Result, ℤ}
use Rattle.mx_value.specs.declared.fixed.NumFault.{NumFault}
use Rattle.mx_plain.specs.declared.base.Month.{Month}
use Rattle.mx_plain.specs.declared.base.Year.{Year}
use Rattle.mx_plain.specs.declared.base.Opening.{Opening}
use Rattle.mx_plain.specs.Figures.{joined, Minus, Times, Over, value}
use Rattle.mx_plain.specs.Base.{base, left, maturing, pols_if, pols_maturity, inflation_factor, disc_factor}
use Rattle.mx_plain.proofs.base.Month.following.Goals as goal

both : (w x y z w' x' y' z' : Result ℤ NumFault) → w ≡ w' → x ≡ x' → y ≡ y' → z ≡ z' → ◌≡◌ {A = Opening} (record { pols_if = w; pols_maturity = x; inflation_factor = y; disc_factor = z }) (record { pols_if = w'; pols_maturity = x'; inflation_factor = y'; disc_factor = z' })
both w x y z w' x' y' z' p q r s = λ i. record { pols_if = p i; pols_maturity = q i; inflation_factor = r i; disc_factor = s i }

pub returns : goal.returns
unfolding pols_if pols_maturity inflation_factor disc_factor
returns c mort disc m y i =
    let b = base c.args.basis.now mort disc in
    let n = pols_if b c.args.t in
    let o = ap (λ (x : Month). x.opening.pols_if) m in
    let d = ap (λ (x : Month). x.pols_death) m in
    let s = ap (λ (x : Month). x.pols_lapse) m in
    let f = ap (λ (x : Month). x.opening.inflation_factor) m in
    let v = ap (λ (x : Month). x.opening.disc_factor) m in
    let k = ap (λ (x : Year). x.disc_mth) y in
    let force : c.minus-in_force.result ≡ joined Minus (value n) c.args.self.now.pols_lapse = c.minus-in_force.ensures ∙ ap (λ (x : Result ℤ NumFault). joined Minus x c.args.self.now.pols_lapse) o in
    let lapsed = force ∙ ap (λ (x : Result ℤ NumFault). joined Minus (value n) x) s in
    let there : c.minus-left.result ≡ value (left b c.args.t n) = c.minus-left.ensures ∙ (λ j. joined Minus (lapsed j) (d j)) in
    let mature : c.maturing-pols_maturity.result ≡ value (maturing b (suc c.args.t) (left b c.args.t n)) = c.maturing-pols_maturity.ensures mort disc (left b c.args.t n) there ∙ ap (λ (u : ℕ). value (maturing b u (left b c.args.t n))) (add-one c.args.t) in
    both _ _ _ _ _ _ _ _
    (c.minus.ensures ∙ (λ j. joined Minus (there j) (mature j)))
    mature
    (c.times.ensures ∙ (λ j. joined Times (f j) (i j)))
    (c.over.ensures ∙ (λ j. joined Over (v j) (k j)))
