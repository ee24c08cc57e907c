-- The formulas of the term assurance, by month t.
use Rattle.std.specs.Prelude.{◌≡◌, ◌<◌, ◌==◌, ℕ, suc, ℤ, pos, List, [], ◌∷◌, map, if◌then◌else◌, Result, IfOk, IsErrOf}
use Rattle.mx_value.specs.declared.fixed.NumFault.{NumFault}
use Rattle.mx_plain.specs.declared.projection.PlainRefusal.{PlainRefusal}
use Rattle.mx_plain.specs.declared.projection.PlainRefusal.TheVariants.{Num}
use Rattle.mx_plain.specs.declared.base.Month.{Month}
use Rattle.mx_plain.specs.declared.term.Paid.{Paid}
use Rattle.mx_plain.specs.Outcome.{AreNumbers, AreRows, Faulty, IsBad, OneFails}
use Rattle.mx_plain.specs.Months.{duration, first}
use Rattle.mx_plain.specs.declared.term.TermPolicy.{TermPolicy}
use Rattle.mx_plain.specs.declared.term.Early.{Early}
use Rattle.mx_plain.specs.declared.term.Flows.{Flows}
use Rattle.mx_plain.specs.declared.term.Sums.{Sums}
use Rattle.mx_plain.specs.Figures.{Figure, Given, Whole, plus, minus, times, over, in_cents, nought, value}
use Rattle.mx_plain.specs.Base.{Base, base, month_of, proj_len, pols_if, pols_death, expenses, worth_before, present_value}

abbrev pub base_of : TermPolicy → Base
base_of p = base (record {
  policy_term = p.policy_term;
  policy_count = p.policy_count;
  expense_acq = p.expense_acq;
  expense_maint = p.expense_maint;
  inflation_rate = p.inflation_rate;
}) p.mort p.disc

abbrev pub claims : TermPolicy → ℕ → Figure
claims p t = times (Given p.sum_assured) (pols_death (base_of p) t)

abbrev pub pv_pols_if : TermPolicy → Figure
pv_pols_if p = present_value (base_of p) (pols_if (base_of p))

abbrev pub pv_claims : TermPolicy → Figure
pv_claims p = present_value (base_of p) (claims p)

abbrev pub net_premium_pp : TermPolicy → Figure
net_premium_pp p = over (pv_claims p) (pv_pols_if p)

abbrev pub premium_pp : TermPolicy → Figure
premium_pp p = in_cents (times (plus (Whole (pos 1)) (Given p.loading_prem)) (net_premium_pp p))

abbrev pub premiums : TermPolicy → ℕ → Figure
premiums p t = times (premium_pp p) (pols_if (base_of p) t)

-- the premiums of the first year
abbrev pub commissions : TermPolicy → ℕ → Figure
commissions p t = if duration t == 0 then premiums p t else nought

abbrev pub net_cf : TermPolicy → ℕ → Figure
net_cf p t = minus (minus (minus (premiums p t) (claims p t)) (expenses (base_of p) t)) (commissions p t)

abbrev pub pv_premiums : TermPolicy → Figure
pv_premiums p = present_value (base_of p) (premiums p)

abbrev pub pv_expenses : TermPolicy → Figure
pv_expenses p = present_value (base_of p) (expenses (base_of p))

abbrev pub pv_commissions : TermPolicy → Figure
pv_commissions p = present_value (base_of p) (commissions p)

abbrev pub pv_net_cf : TermPolicy → Figure
pv_net_cf p = minus (minus (minus (pv_premiums p) (pv_claims p)) (pv_expenses p)) (pv_commissions p)

-- the row of a month, and the present values
unfoldable pub row : TermPolicy → ℕ → List Figure
row p t = pols_if (base_of p) t ∷ premiums p t ∷ claims p t ∷ expenses (base_of p) t ∷ commissions p t ∷ net_cf p t ∷ []

unfoldable pub pv : TermPolicy → List Figure
pv p = pv_pols_if p ∷ pv_premiums p ∷ pv_claims p ∷ pv_expenses p ∷ pv_commissions p ∷ pv_net_cf p ∷ []

-- how many rows there are
abbrev pub row_count : TermPolicy → ℕ
row_count p = proj_len (base_of p)

-- ---- the same as the code keeps it, a fault in the place of its number

abbrev pub early_before : TermPolicy → ℕ → Early
early_before p n = record {
  pols_if = value (worth_before (base_of p) n (pols_if (base_of p)));
  claims = value (worth_before (base_of p) n (claims p));
}

abbrev pub flows_of : TermPolicy → ℕ → Flows
flows_of p t = record {
  premiums = value (premiums p t);
  claims = value (claims p t);
  commissions = value (commissions p t);
  net_cf = value (net_cf p t);
}

abbrev pub sums_before : TermPolicy → ℕ → Sums
sums_before p n = record {
  premiums = value (worth_before (base_of p) n (premiums p));
  expenses = value (worth_before (base_of p) n (expenses (base_of p)));
  commissions = value (worth_before (base_of p) n (commissions p));
}

-- ---- what is said of the calls

abbrev pub HasRows : TermPolicy → List (List ℤ) → Type 0
HasRows p rows = AreRows (row_count p) (row p) rows

abbrev pub HasValues : TermPolicy → List ℤ → Type 0
HasValues p numbers = AreNumbers (pv p) numbers

abbrev pub IsBadPolicy : TermPolicy → Type 0
IsBadPolicy p = IsBad p.policy_term p.mort p.disc

-- a step that a row or a present value needs has this fault
abbrev pub HasFault : TermPolicy → NumFault → Type 0
HasFault p fault = Faulty (row_count p) (row p) (pv p) fault

abbrev pub AreItsMonths : TermPolicy → ℕ → List Month → Type 0
AreItsMonths p n months = months ≡ first n (month_of (base_of p))

abbrev pub ArePaid : TermPolicy → ℕ → Paid → Type 0
ArePaid p n paid = AreRows n (row p) paid.rows × (paid.sums ≡ sums_before p n)

-- one of the first n rows has this fault
abbrev pub RowFails : TermPolicy → ℕ → NumFault → Type 0
RowFails p n fault = (t : ℕ) × ((t < n) × OneFails (row p t) fault)

abbrev pub AreSums : Sums → Flows → Month → Sums → Type 0
AreSums before flows month sums =
    (p : TermPolicy) (t : ℕ) → before ≡ sums_before p t → flows ≡ flows_of p t → month ≡ month_of (base_of p) t → sums ≡ sums_before p (suc t)

abbrev pub AreClaims : TermPolicy → Month → Result ℤ NumFault → Type 0
AreClaims p month paid = (t : ℕ) → month ≡ month_of (base_of p) t → paid ≡ value (claims p t)

abbrev pub IsEarly : TermPolicy → List Month → Early → Type 0
IsEarly p months early = (n : ℕ) → AreItsMonths p n months → early ≡ early_before p n

abbrev pub IsPremium : TermPolicy → Early → Result ℤ NumFault → Type 0
IsPremium p early premium = early ≡ early_before p (row_count p) → premium ≡ value (premium_pp p)

abbrev pub AreCommissions : ℕ → Result ℤ NumFault → Result ℤ NumFault → Type 0
AreCommissions t received paid = (p : TermPolicy) → received ≡ value (premiums p t) → paid ≡ value (commissions p t)

abbrev pub AreFlows : TermPolicy → ℕ → Result ℤ NumFault → Month → Flows → Type 0
AreFlows p t premium month flows = premium ≡ value (premium_pp p) → month ≡ month_of (base_of p) t → flows ≡ flows_of p t

abbrev pub IsRow : Month → Flows → List (Result ℤ NumFault) → Type 0
IsRow month flows numbers =
    (p : TermPolicy) (t : ℕ) → month ≡ month_of (base_of p) t → flows ≡ flows_of p t → numbers ≡ map value (row p t)

abbrev pub AreValues : Early → Sums → List (Result ℤ NumFault) → Type 0
AreValues early sums numbers =
    (p : TermPolicy) → early ≡ early_before p (row_count p) → sums ≡ sums_before p (row_count p) → numbers ≡ map value (pv p)

abbrev pub Pays : TermPolicy → Result ℤ NumFault → List Month → Result Paid PlainRefusal → Type 0
Pays p premium months answer = (n : ℕ) → AreItsMonths p n months → premium ≡ value (premium_pp p) → IfOk answer (ArePaid p n)

abbrev pub TellsRow : TermPolicy → Result ℤ NumFault → List Month → Result Paid PlainRefusal → Type 0
TellsRow p premium months answer =
    (n : ℕ) (fault : NumFault) → AreItsMonths p n months → premium ≡ value (premium_pp p) → IsErrOf answer (Num fault) → RowFails p n fault
