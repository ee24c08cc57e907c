use Rattle.std.proofs.Common.{◌≡◌, ◌++◌, List, [], ◌∷◌, ℤ, pos, sym, ◌∙◌, ap, arith}
use Rattle.std.proofs.lemmas.List.{get_or_read}
use Rattle.mx_plain.specs.declared.base.Year.{Year}
use Rattle.mx_plain.specs.Base.{year_of, year_at, rate}
use Rattle.mx_plain.specs.Months.{first}
use Rattle.mx_plain.proofs.FirstMonths.{first-none, first-more}
use Rattle.mx_plain.proofs.base.years.Goals as goal

pub loop-y-init : goal.loop-y-init
loop-y-init c = c.new-years.ensures.items ∙ sym (first-none _)

pub loop-y-preserved : goal.loop-y-preserved
loop-y-preserved c =
    let m : c.index-mort-at.result ≡ rate c.args.mort.now c.loop-y.y = get_or_read c.args.mort.now c.loop-y.y _ (omega arith) c.index-mort-at.is (pos 0) in
    let d : c.index-disc-at.result ≡ rate c.args.disc.now c.loop-y.y = get_or_read c.args.disc.now c.loop-y.y _ (omega arith) c.index-disc-at.is (pos 0) in
    c.in_ok-push.ensures.items
    ∙ ap (λ (ys : List Year). ys ++ c.of.result ∷ []) c.loop-y.invariant
    ∙ ap (λ (y : Year). first c.loop-y.y (year_at c.args.mort.now c.args.disc.now) ++ y ∷ []) (c.of.ensures ∙ ap (λ (x : ℤ). year_of x c.index-disc-at.result c.loop-y.y) m ∙ ap (λ (x : ℤ). year_of (rate c.args.mort.now c.loop-y.y) x c.loop-y.y) d)
    ∙ sym (first-more c.loop-y.y (year_at c.args.mort.now c.args.disc.now))

pub returns-clause-years : goal.returns-clause-years
returns-clause-years c =
    let e : c.loop-y.y ≡ c.args.count = omega arith in
    c.loop-y.invariant ∙ ap (λ n. first n (year_at c.args.mort.now c.args.disc.now)) e
