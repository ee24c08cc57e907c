use Rattle.std.proofs.Common.{◌≡◌, ◌+◌, ◌++◌, [], ◌∷◌, length, sym, ◌∙◌, ap, arith, add-one}
use Rattle.mx_plain.specs.Months.{first, duration}
use Rattle.mx_plain.specs.Base.{base, year_at, month_of, opening_of, proj_len}
use Rattle.mx_plain.proofs.FirstMonths.{first-none, first-more, first-length, read-first}
use Rattle.mx_plain.proofs.base.months.Goals as goal

pub index-year-requires : goal.index-year-requires
index-year-requires c =
    let n : length c.in_ok-years.years.items ≡ c.args.basis.now.policy_term + 1 = ap length c.in_ok-years.ensures.years ∙ first-length _ _ in
    omega arith

pub loop-t-init : goal.loop-t-init
loop-t-init c = record {
  months = c.new-months.ensures.items ∙ sym (first-none _);
  opening = c.first_opening-opening.ensures c.args.mort.now c.args.disc.now;
}

pub loop-t-preserved : goal.loop-t-preserved
loop-t-preserved c =
    let b = base c.args.basis.now c.args.mort.now c.args.disc.now in
    let year : c.index-year.result.now ≡ year_at c.args.mort.now c.args.disc.now (duration c.loop-t.t) = read-first (c.args.basis.now.policy_term + 1) (year_at c.args.mort.now c.args.disc.now) c.in_ok-years.years.items (duration c.loop-t.t) _ c.in_ok-years.ensures.years c.index-year.ensures (omega arith) in
    let month : c.of-month.result ≡ month_of b c.loop-t.t = c.of-month.ensures c.args.mort.now c.args.disc.now c.loop-t.invariant.opening year in
    record {
      months = c.in_ok-push.ensures.items ∙ (λ i. c.loop-t.invariant.months i ++ month i ∷ []) ∙ sym (first-more c.loop-t.t (month_of b));
      opening = c.following-opening.ensures c.args.mort.now c.args.disc.now month year (c.inflation_mth-inflation_mth.ensures c.args.mort.now c.args.disc.now) ∙ ap (opening_of b) (sym (add-one c.loop-t.t));
    }

pub returns-clause-months : goal.returns-clause-months
returns-clause-months c =
    let b = base c.args.basis.now c.args.mort.now c.args.disc.now in
    let e : c.loop-t.t ≡ proj_len b = omega arith in
    c.loop-t.invariant.months ∙ ap (λ n. first n (month_of b)) e
