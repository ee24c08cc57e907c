-- The formulas of the single-premium savings product, by month t.
use Rattle.std.specs.Prelude.{◌≡◌, ◌<◌, ◌==◌, ℕ, zero, suc, ℤ, pos, List, [], ◌∷◌, map, if◌then◌else◌, Result, IfOk, IsErrOf}
use Rattle.mx_value.specs.declared.fixed.NumFault.{NumFault}
use Rattle.mx_plain.specs.declared.projection.PlainRefusal.{PlainRefusal}
use Rattle.mx_plain.specs.declared.projection.PlainRefusal.TheVariants.{Num}
use Rattle.mx_plain.specs.declared.base.Month.{Month}
use Rattle.mx_plain.specs.declared.savings.Paid.{Paid}
use Rattle.mx_plain.specs.Outcome.{AreNumbers, AreRows, Faulty, IsBad, OneFails}
use Rattle.mx_plain.specs.Months.{first}
use Rattle.mx_plain.specs.declared.savings.SavingsPolicy.{SavingsPolicy}
use Rattle.mx_plain.specs.declared.savings.Growth.{Growth}
use Rattle.mx_plain.specs.declared.savings.Account.{Account}
use Rattle.mx_plain.specs.declared.savings.Flows.{Flows}
use Rattle.mx_plain.specs.declared.savings.Sums.{Sums}
use Rattle.mx_plain.specs.Figures.{Figure, Given, Whole, plus, minus, times, larger, monthly, nought, value}
use Rattle.mx_plain.specs.Base.{Base, base, month_of, proj_len, mort_rate_mth, pols_if, pols_death, pols_lapse, pols_maturity, expenses, worth_before, present_value}

abbrev pub base_of : SavingsPolicy → Base
base_of p = base (record {
  policy_term = p.policy_term;
  policy_count = p.policy_count;
  expense_acq = p.expense_acq;
  expense_maint = p.expense_maint;
  inflation_rate = p.inflation_rate;
}) p.mort p.disc

-- per policy: the premium, which is paid in month 0
abbrev pub premium_pp : SavingsPolicy → ℕ → Figure
premium_pp p t = if t == 0 then Given p.single_premium else nought

-- the part of a premium that goes to the account
abbrev pub kept : SavingsPolicy → Figure
kept p = minus (Whole (pos 1)) (Given p.load_prem_rate)

abbrev pub inv_mth : SavingsPolicy → Figure
inv_mth p = minus (monthly (plus (Whole (pos 1)) (Given p.inv_rate))) (Whole (pos 1))

-- the account value with the premium of month t, of one that began it with av
abbrev pub av_in : SavingsPolicy → ℕ → Figure → Figure
av_in p t av = plus av (times (premium_pp p t) (kept p))

-- of an account value av with the premium of month t: the fee, the cost of insurance, what is invested, and its end
abbrev pub fee : SavingsPolicy → Figure → Figure
fee p av = times av (Given p.fee_rate)

abbrev pub coi : SavingsPolicy → ℕ → Figure → Figure
coi p t av = times (larger (minus (Given p.sum_assured) av) nought) (mort_rate_mth (base_of p) t)

abbrev pub invested : SavingsPolicy → ℕ → Figure → Figure
invested p t av = minus (minus av (fee p av)) (coi p t av)

abbrev pub av_end : SavingsPolicy → ℕ → Figure → Figure
av_end p t av = plus (invested p t av) (times (invested p t av) (inv_mth p))

unfoldable pub av_pp : SavingsPolicy → ℕ → Figure
av_pp p zero = nought
av_pp p (suc t) = av_end p t (av_in p t (av_pp p t))

abbrev pub av_in_pp : SavingsPolicy → ℕ → Figure
av_in_pp p t = av_in p t (av_pp p t)

abbrev pub av_end_pp : SavingsPolicy → ℕ → Figure
av_end_pp p t = av_end p t (av_in_pp p t)

abbrev pub premiums : SavingsPolicy → ℕ → Figure
premiums p t = times (premium_pp p t) (pols_if (base_of p) t)

abbrev pub claims : SavingsPolicy → ℕ → Figure
claims p t = times (larger (Given p.sum_assured) (av_in_pp p t)) (pols_death (base_of p) t)

abbrev pub surrenders : SavingsPolicy → ℕ → Figure
surrenders p t = times (av_end_pp p t) (pols_lapse (base_of p) t)

abbrev pub maturities : SavingsPolicy → ℕ → Figure
maturities p t = times (av_pp p t) (pols_maturity (base_of p) t)

-- 5% of the premiums
abbrev pub commissions : SavingsPolicy → ℕ → Figure
commissions p t = times (premiums p t) (Given (pos 50_000_000))

abbrev pub net_cf : SavingsPolicy → ℕ → Figure
net_cf p t = minus (minus (minus (minus (minus (premiums p t) (claims p t)) (surrenders p t)) (maturities p t)) (expenses (base_of p) t)) (commissions p t)

-- of what is paid month by month
abbrev pub pv_of : SavingsPolicy → (ℕ → Figure) → Figure
pv_of p flow = present_value (base_of p) flow

abbrev pub pv_net_cf : SavingsPolicy → Figure
pv_net_cf p = minus (minus (minus (minus (minus (pv_of p (premiums p)) (pv_of p (claims p))) (pv_of p (surrenders p))) (pv_of p (maturities p))) (pv_of p (expenses (base_of p)))) (pv_of p (commissions p))

-- the row of a month, and the present values, with 0.0 in the account value's place
unfoldable pub row : SavingsPolicy → ℕ → List Figure
row p t = pols_if (base_of p) t ∷ av_pp p t ∷ premiums p t ∷ claims p t ∷ surrenders p t ∷ maturities p t ∷ expenses (base_of p) t ∷ commissions p t ∷ net_cf p t ∷ []

unfoldable pub pv : SavingsPolicy → List Figure
pv p = pv_of p (pols_if (base_of p)) ∷ nought ∷ pv_of p (premiums p) ∷ pv_of p (claims p) ∷ pv_of p (surrenders p) ∷ pv_of p (maturities p) ∷ pv_of p (expenses (base_of p)) ∷ pv_of p (commissions p) ∷ pv_net_cf p ∷ []

-- how many rows there are
abbrev pub row_count : SavingsPolicy → ℕ
row_count p = proj_len (base_of p)

-- ---- the same as the code keeps it, a fault in the place of its number

abbrev pub growth_of : SavingsPolicy → Growth
growth_of p = record { kept = value (kept p); inv_mth = value (inv_mth p) }

abbrev pub account_of : SavingsPolicy → ℕ → Account
account_of p t = record {
  premium_pp = value (premium_pp p t);
  av_pp = value (av_pp p t);
  av_in_pp = value (av_in_pp p t);
  av_end_pp = value (av_end_pp p t);
}

abbrev pub flows_of : SavingsPolicy → ℕ → Flows
flows_of p t = record {
  premiums = value (premiums p t);
  claims = value (claims p t);
  surrenders = value (surrenders p t);
  maturities = value (maturities p t);
  commissions = value (commissions p t);
  net_cf = value (net_cf p t);
}

abbrev pub sum_before : SavingsPolicy → ℕ → (ℕ → Figure) → Figure
sum_before p n flow = worth_before (base_of p) n flow

abbrev pub sums_before : SavingsPolicy → ℕ → Sums
sums_before p n = record {
  pols_if = value (sum_before p n (pols_if (base_of p)));
  premiums = value (sum_before p n (premiums p));
  claims = value (sum_before p n (claims p));
  surrenders = value (sum_before p n (surrenders p));
  maturities = value (sum_before p n (maturities p));
  expenses = value (sum_before p n (expenses (base_of p)));
  commissions = value (sum_before p n (commissions p));
}

-- ---- what is said of the calls

abbrev pub HasRows : SavingsPolicy → List (List ℤ) → Type 0
HasRows p rows = AreRows (row_count p) (row p) rows

abbrev pub HasValues : SavingsPolicy → List ℤ → Type 0
HasValues p numbers = AreNumbers (pv p) numbers

abbrev pub IsBadPolicy : SavingsPolicy → Type 0
IsBadPolicy p = IsBad p.policy_term p.mort p.disc

-- a step that a row or a present value needs has this fault
abbrev pub HasFault : SavingsPolicy → NumFault → Type 0
HasFault p fault = Faulty (row_count p) (row p) (pv p) fault

abbrev pub AreItsMonths : SavingsPolicy → ℕ → List Month → Type 0
AreItsMonths p n months = months ≡ first n (month_of (base_of p))

abbrev pub ArePaid : SavingsPolicy → ℕ → Paid → Type 0
ArePaid p n paid = AreRows n (row p) paid.rows × (paid.sums ≡ sums_before p n)

-- one of the first n rows has this fault
abbrev pub RowFails : SavingsPolicy → ℕ → NumFault → Type 0
RowFails p n fault = (t : ℕ) × ((t < n) × OneFails (row p t) fault)

abbrev pub AreSums : Sums → Flows → Month → Sums → Type 0
AreSums before flows month sums =
    (p : SavingsPolicy) (t : ℕ) → before ≡ sums_before p t → flows ≡ flows_of p t → month ≡ month_of (base_of p) t → sums ≡ sums_before p (suc t)

abbrev pub IsInvested : SavingsPolicy → Month → Result ℤ NumFault → Result ℤ NumFault → Type 0
IsInvested p month account put =
    (t : ℕ) (av : Figure) → month ≡ month_of (base_of p) t → account ≡ value av → put ≡ value (invested p t av)

abbrev pub IsAccount : SavingsPolicy → ℕ → Growth → Month → Result ℤ NumFault → Account → Type 0
IsAccount p t growth month av account =
    growth ≡ growth_of p → month ≡ month_of (base_of p) t → av ≡ value (av_pp p t) → account ≡ account_of p t

abbrev pub AreFlows : SavingsPolicy → Account → Month → Flows → Type 0
AreFlows p account month flows = (t : ℕ) → account ≡ account_of p t → month ≡ month_of (base_of p) t → flows ≡ flows_of p t

abbrev pub IsRow : Month → Account → Flows → List (Result ℤ NumFault) → Type 0
IsRow month account flows numbers =
    (p : SavingsPolicy) (t : ℕ) → month ≡ month_of (base_of p) t → account ≡ account_of p t → flows ≡ flows_of p t → numbers ≡ map value (row p t)

abbrev pub AreValues : Sums → List (Result ℤ NumFault) → Type 0
AreValues sums numbers = (p : SavingsPolicy) → sums ≡ sums_before p (row_count p) → numbers ≡ map value (pv p)

abbrev pub Pays : SavingsPolicy → List Month → Result Paid PlainRefusal → Type 0
Pays p months answer = (n : ℕ) → AreItsMonths p n months → IfOk answer (ArePaid p n)

abbrev pub TellsRow : SavingsPolicy → List Month → Result Paid PlainRefusal → Type 0
TellsRow p months answer = (n : ℕ) (fault : NumFault) → AreItsMonths p n months → IsErrOf answer (Num fault) → RowFails p n fault
