use Rattle.std.proofs.Common.{◌≡◌, ◌<◌, ◌∙◌, ℕ, length, sym, ap, subst, arith, add-one}
use Rattle.mx_plain.specs.Base.{month_of}
use Rattle.std.proofs.lemmas.Result.{err_from_is_err_and}
use Rattle.mx_plain.specs.Outcome.{AreRows}
use Rattle.mx_plain.specs.Term.{base_of, row, sums_before}
use Rattle.mx_plain.proofs.FirstMonths.{first-length, read-first}
use Rattle.mx_plain.proofs.Outcomes.{rows-none, rows-more, failing}
use Rattle.mx_plain.proofs.term.Paid.of.Goals as goal

pub loop-t-init : goal.loop-t-init
loop-t-init c n e q = (rows-none (row c.args.policy.now) _ c.new-rows.ensures, c.new-sums.ensures c.args.policy.now)

pub loop-t-preserved : goal.loop-t-preserved
loop-t-preserved c n e q =
    let b = base_of c.args.policy.now in
    let l : length c.args.months.now ≡ n = ap length e ∙ first-length n (month_of b) in
    let m : c.index-months-t.result ≡ month_of b c.loop-t.t = read-first n (month_of b) c.args.months.now c.loop-t.t _ e c.index-months-t.is (omega arith) in
    let f = c.of-flows.ensures q m in
    let r = c.row.ensures c.args.policy.now c.loop-t.t m f in
    let before = c.loop-t.invariant n e q in
    let numbers = sym r ∙ c.in_ok-settled.ensures.numbers in
    (rows-more c.loop-t.t (row c.args.policy.now) c.loop-t.rows _ c.in_ok-settled.field-0 before.0 numbers c.in_ok-push.ensures.ok, c.with-sums.ensures c.args.policy.now c.loop-t.t before.1 f m ∙ ap (sums_before c.args.policy.now) (sym (add-one c.loop-t.t)))

pub returns-in_err-settled-clause-fault : goal.returns-in_err-settled-clause-fault
returns-in_err-settled-clause-fault c n fault e q h =
    let b = base_of c.args.policy.now in
    let l : length c.args.months.now ≡ n = ap length e ∙ first-length n (month_of b) in
    let less : c.loop-t.t < n = omega arith in
    let m : c.index-months-t.result ≡ month_of b c.loop-t.t = read-first n (month_of b) c.args.months.now c.loop-t.t _ e c.index-months-t.is less in
    let r = c.row.ensures c.args.policy.now c.loop-t.t m (c.of-flows.ensures q m) in
    let p = err_from_is_err_and c.from_residual.result c.from_residual.ensures.1 in
    let came = p.1 in
    let same = p.2 in
    let was = c.in_err-settled.was in
    let there = c.settled.ensures.fault fault (cc) in
    (c.loop-t.t, (less, failing (row c.args.policy.now c.loop-t.t) c.row.result fault r there))

pub returns-clause-rows : goal.returns-clause-rows
returns-clause-rows c n e q =
    let l : length c.args.months.now ≡ n = ap length e ∙ first-length n (month_of (base_of c.args.policy.now)) in
    let k : c.loop-t.t ≡ n = omega arith in
    let all = c.loop-t.invariant n e q in
    subst (λ (i : ℕ). AreRows i (row c.args.policy.now) c.loop-t.rows × (c.loop-t.sums ≡ sums_before c.args.policy.now i)) k all
