use Rattle.std.proofs.Common.{◌≡◌, ◌+◌, ◌<◌, ◌∙◌, ℕ, suc, pos, Ok, refl, length, sym, ap, subst, arith, add-one}
use Rattle.std.proofs.lemmas.Result.{err_from_is_err_and}
use Rattle.mx_plain.specs.declared.savings.Account.{Account}
use Rattle.mx_plain.specs.Figures.{value}
use Rattle.mx_plain.specs.Base.{month_of}
use Rattle.mx_plain.specs.Outcome.{AreRows}
use Rattle.mx_plain.specs.Savings.{base_of, row, sums_before, av_pp, av_end_pp}
use Rattle.mx_plain.specs.declared.savings.SavingsPolicy.{SavingsPolicy}
use Rattle.mx_plain.proofs.FirstMonths.{first-length, read-first}
use Rattle.mx_plain.proofs.Outcomes.{rows-none, rows-more, failing}
use Rattle.mx_plain.proofs.savings.Paid.of.Goals as goal

begins : (p : SavingsPolicy) → value (av_pp p 0) ≡ Ok (pos 0)
unfolding av_pp
begins p = refl

ends : (p : SavingsPolicy) (t : ℕ) → value (av_end_pp p t) ≡ value (av_pp p (suc t))
unfolding av_pp
ends p t = refl

goes_on : (p : SavingsPolicy) (t : ℕ) → value (av_end_pp p t) ≡ value (av_pp p (t + 1))
goes_on p t = ends p t ∙ ap (λ (u : ℕ). value (av_pp p u)) (sym (add-one t))

pub loop-t-init : goal.loop-t-init
loop-t-init c n e = (rows-none (row c.args.policy.now) _ c.new-rows.ensures, c.new-sums.ensures c.args.policy.now, c.decimal-av_pp.ensures ∙ sym (begins c.args.policy.now))

pub loop-t-preserved : goal.loop-t-preserved
loop-t-preserved c n e =
    let p = c.args.policy.now in
    let b = base_of p in
    let l : length c.args.months.now ≡ n = ap length e ∙ first-length n (month_of b) in
    let m : c.index-months-t.result ≡ month_of b c.loop-t.t = read-first n (month_of b) c.args.months.now c.loop-t.t _ e c.index-months-t.is (omega arith) in
    let before = c.loop-t.invariant n e in
    let a = c.of-account.ensures c.of-growth.ensures m before.2 in
    let f = c.of-flows.ensures c.loop-t.t a m in
    let r = c.row.ensures p c.loop-t.t m a f in
    let numbers = sym r ∙ c.in_ok-settled.ensures.numbers in (
      rows-more c.loop-t.t (row p) c.loop-t.rows _ c.in_ok-settled.field-0 before.0 numbers c.in_ok-push.ensures.ok,
      c.with-sums.ensures p c.loop-t.t before.1 f m ∙ ap (sums_before p) (sym (add-one c.loop-t.t)),
      ap (λ (x : Account). x.av_end_pp) a ∙ goes_on p c.loop-t.t,
    )

pub returns-in_err-settled-clause-fault : goal.returns-in_err-settled-clause-fault
returns-in_err-settled-clause-fault c n fault e h =
    let p = c.args.policy.now in
    let b = base_of p in
    let l : length c.args.months.now ≡ n = ap length e ∙ first-length n (month_of b) in
    let less : c.loop-t.t < n = omega arith in
    let m : c.index-months-t.result ≡ month_of b c.loop-t.t = read-first n (month_of b) c.args.months.now c.loop-t.t _ e c.index-months-t.is less in
    let before = c.loop-t.invariant n e in
    let a = c.of-account.ensures c.of-growth.ensures m before.2 in
    let r = c.row.ensures p c.loop-t.t m a (c.of-flows.ensures c.loop-t.t a m) in
    let from = err_from_is_err_and c.from_residual.result c.from_residual.ensures.1 in
    let came = from.1 in
    let same = from.2 in
    let was = c.in_err-settled.was in
    let there = c.settled.ensures.fault fault (cc) in
    (c.loop-t.t, (less, failing (row p c.loop-t.t) c.row.result fault r there))

pub returns-clause-rows : goal.returns-clause-rows
returns-clause-rows c n e =
    let p = c.args.policy.now in
    let l : length c.args.months.now ≡ n = ap length e ∙ first-length n (month_of (base_of p)) in
    let k : c.loop-t.t ≡ n = omega arith in
    let all = c.loop-t.invariant n e in
    subst (λ (i : ℕ). AreRows i (row p) c.loop-t.rows × (c.loop-t.sums ≡ sums_before p i)) k (all.0, all.1)
