use Rattle.std.proofs.Common.{ap}
use Rattle.mx_plain.specs.declared.base.Month.{Month}
use Rattle.mx_plain.specs.declared.savings.Flows.{Flows}
use Rattle.mx_plain.specs.declared.savings.Sums.{Sums}
use Rattle.mx_plain.specs.Base.{pols_if, expenses}
use Rattle.mx_plain.specs.Savings.{base_of, premiums, claims, surrenders, maturities, commissions}
use Rattle.mx_plain.proofs.savings.Sums.with.Goals as goal

pub returns : goal.returns
returns c p t s f m =
    let b = base_of p in
    let n1 = c.with_worth.ensures b t (pols_if b) (ap (λ (x : Sums). x.pols_if) s) (ap (λ (x : Month). x.opening.pols_if) m) m in
    let n2 = c.with_worth-2.ensures b t (premiums p) (ap (λ (x : Sums). x.premiums) s) (ap (λ (x : Flows). x.premiums) f) m in
    let n3 = c.with_worth-3.ensures b t (claims p) (ap (λ (x : Sums). x.claims) s) (ap (λ (x : Flows). x.claims) f) m in
    let n4 = c.with_worth-4.ensures b t (surrenders p) (ap (λ (x : Sums). x.surrenders) s) (ap (λ (x : Flows). x.surrenders) f) m in
    let n5 = c.with_worth-5.ensures b t (maturities p) (ap (λ (x : Sums). x.maturities) s) (ap (λ (x : Flows). x.maturities) f) m in
    let n6 = c.with_worth-6.ensures b t (expenses b) (ap (λ (x : Sums). x.expenses) s) (ap (λ (x : Month). x.expenses) m) m in
    let n7 = c.with_worth-7.ensures b t (commissions p) (ap (λ (x : Sums). x.commissions) s) (ap (λ (x : Flows). x.commissions) f) m in
    λ i. record { pols_if = n1 i; premiums = n2 i; claims = n3 i; surrenders = n4 i; maturities = n5 i; expenses = n6 i; commissions = n7 i }
