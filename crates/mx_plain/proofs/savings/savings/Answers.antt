use Rattle.std.proofs.Common.{◌≡◌, ◌∙◌, inr}
use Rattle.std.proofs.lemmas.Result.{err_from_is_err_and}
use Rattle.mx_plain.specs.Months.{first}
use Rattle.mx_plain.specs.Base.{base, month_of, proj_len}
use Rattle.mx_plain.specs.Savings.{base_of, row_count, pv}
use Rattle.mx_plain.proofs.Outcomes.{failing}
use Rattle.mx_plain.proofs.savings.savings.Goals as goal

pub returns-in_err-pv-clause-fault : goal.returns-in_err-pv-clause-fault
returns-in_err-pv-clause-fault c fault h =
    let p = c.args.policy.now in
    let n = row_count p in
    let months : c.in_ok-months.months.items ≡ first n (month_of (base_of p)) =
    c.in_ok-months.ensures.months
    ∙ (λ i. first (proj_len (base (c.basis_of-basis.ensures i) (c.as_slice-3.ensures i) (c.as_slice-4.ensures i))) (month_of (base (c.basis_of-basis.ensures i) (c.as_slice-3.ensures i) (c.as_slice-4.ensures i)))) in
    let paid = c.in_ok-paid.ensures.rows n (c.as_slice-5.ensures.value ∙ months) in
    let values = c.present_values.ensures p paid.1 in
    let from = err_from_is_err_and c.from_residual-in_err-pv.result c.from_residual-in_err-pv.ensures.1 in
    let came = from.1 in
    let same = from.2 in
    let was = c.in_err-pv.was in
    let there = c.settled.ensures.fault fault (cc) in
    inr (failing (pv p) c.present_values.result fault values there)
