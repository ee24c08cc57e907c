use Rattle.std.proofs.Common.{◌≡◌, ◌∙◌, suc, length, sym, ap, arith, add-one}
use Rattle.mx_plain.specs.declared.term.Early.{Early}
use Rattle.mx_plain.specs.declared.base.Month.{Month}
use Rattle.mx_plain.specs.Months.{sum_of}
use Rattle.mx_plain.specs.Base.{month_of, pols_if}
use Rattle.mx_plain.specs.Term.{base_of, claims, early_before}
use Rattle.mx_plain.proofs.FirstMonths.{first-length, read-first}
use Rattle.mx_plain.proofs.term.Early.of.Goals as goal

pub loop-t-init : goal.loop-t-init
unfolding sum_of
loop-t-init c n e = λ i. record { pols_if = c.decimal.ensures i; claims = c.decimal-2.ensures i }

pub loop-t-preserved : goal.loop-t-preserved
loop-t-preserved c n e =
    let b = base_of c.args.policy.now in
    let t = c.loop-t.t in
    let l : length c.args.months.now ≡ n = ap length e ∙ first-length n (month_of b) in
    let m : c.index-months-t.result ≡ month_of b t = read-first n (month_of b) c.args.months.now t _ e c.index-months-t.is (omega arith) in
    let before = c.loop-t.invariant n e in
    let first_sum = c.with_worth.ensures b t (pols_if b) (ap (λ (x : Early). x.pols_if) before) (ap (λ (x : Month). x.opening.pols_if) m) m in
    let second_sum = c.with_worth-in-loop-t.ensures b t (claims c.args.policy.now) (ap (λ (x : Early). x.claims) before) (c.claims.ensures t m) m in
    let both : ◌≡◌ {A = Early} (record { pols_if = c.with_worth.result; claims = c.with_worth-in-loop-t.result }) (early_before c.args.policy.now (suc t)) = λ i. record { pols_if = first_sum i; claims = second_sum i } in
    both ∙ ap (early_before c.args.policy.now) (sym (add-one t))

pub returns : goal.returns
returns c n e =
    let l : length c.args.months.now ≡ n = ap length e ∙ first-length n (month_of (base_of c.args.policy.now)) in
    let k : c.loop-t.t ≡ n = omega arith in
    c.loop-t.invariant n e ∙ ap (early_before c.args.policy.now) k
