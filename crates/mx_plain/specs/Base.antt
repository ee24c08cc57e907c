-- The formulas that both products share, by month t.
use Rattle.std.specs.Prelude.{◌≡◌, Result, ℕ, zero, suc, ◌+◌, ◌*◌, ◌==◌, ℤ, pos, List, get_or, if◌then◌else◌}
use Rattle.mx_value.specs.declared.fixed.NumFault.{NumFault}
use Rattle.mx_plain.specs.declared.base.Basis.{Basis}
use Rattle.mx_plain.specs.declared.base.Year.{Year}
use Rattle.mx_plain.specs.declared.base.Opening.{Opening}
use Rattle.mx_plain.specs.declared.base.Month.{Month}
use Rattle.mx_plain.specs.Figures.{Figure, Given, Whole, plus, minus, times, over, larger, monthly, nought, unity, value}
use Rattle.mx_plain.specs.Months.{duration, first, sum_of}

-- the numbers of a policy, and its rates of mortality and of interest by year
pub record Base : Type 0 where
  pub basis : Basis
  pub mort : List ℤ
  pub disc : List ℤ

abbrev pub base : Basis → List ℤ → List ℤ → Base
base basis mort disc = record { basis = basis; mort = mort; disc = disc }

-- how many months have a row
abbrev pub proj_len : Base → ℕ
proj_len b = 12 * b.basis.policy_term + 1

-- the rate of a year
abbrev pub rate : List ℤ → ℕ → ℤ
rate rates y = get_or rates y (pos 0)

abbrev pub mort_rate_mth : Base → ℕ → Figure
mort_rate_mth b t = over (Given (rate b.mort (duration t))) (Whole (pos 12))

-- of year y: 10% in the first one, 2% less each year, and 2% at the least
abbrev pub lapse_rate : ℕ → Figure
lapse_rate y = larger (minus (Given (pos 100_000_000)) (times (Given (pos 20_000_000)) (Whole (pos y)))) (Given (pos 20_000_000))

abbrev pub lapse_rate_mth : ℕ → Figure
lapse_rate_mth t = over (lapse_rate (duration t)) (Whole (pos 12))

abbrev pub pols_if_init : Base → Figure
pols_if_init b = Given b.basis.policy_count

-- the policies, of n in force in month t, that end by death or by lapse in it, and those that are left
abbrev pub deaths : Base → ℕ → Figure → Figure
deaths b t n = times n (mort_rate_mth b t)

abbrev pub lapses : Base → ℕ → Figure → Figure
lapses b t n = times (minus n (deaths b t n)) (lapse_rate_mth t)

abbrev pub left : Base → ℕ → Figure → Figure
left b t n = minus (minus n (lapses b t n)) (deaths b t n)

-- all that are left mature at the end of the term
abbrev pub maturing : Base → ℕ → Figure → Figure
maturing b t n = if t == 12 * b.basis.policy_term then n else nought

unfoldable pub pols_if : Base → ℕ → Figure
pols_if b zero = pols_if_init b
pols_if b (suc t) = minus (left b t (pols_if b t)) (maturing b (suc t) (left b t (pols_if b t)))

abbrev pub pols_death : Base → ℕ → Figure
pols_death b t = deaths b t (pols_if b t)

abbrev pub pols_lapse : Base → ℕ → Figure
pols_lapse b t = lapses b t (pols_if b t)

-- a term has a year at least, so none mature in month 0
unfoldable pub pols_maturity : Base → ℕ → Figure
pols_maturity b zero = nought
pols_maturity b (suc t) = maturing b (suc t) (left b t (pols_if b t))

abbrev pub inflation_mth : Base → Figure
inflation_mth b = monthly (plus (Whole (pos 1)) (Given b.basis.inflation_rate))

unfoldable pub inflation_factor : Base → ℕ → Figure
inflation_factor b zero = unity
inflation_factor b (suc t) = times (inflation_factor b t) (inflation_mth b)

abbrev pub disc_mth : Base → ℕ → Figure
disc_mth b t = monthly (plus (Whole (pos 1)) (Given (rate b.disc (duration t))))

unfoldable pub disc_factor : Base → ℕ → Figure
disc_factor b zero = unity
disc_factor b (suc t) = over (disc_factor b t) (disc_mth b t)

abbrev pub maint : Base → ℕ → Figure
maint b t = times (over (times (pols_if b t) (Given b.basis.expense_maint)) (Whole (pos 12))) (inflation_factor b t)

-- the acquisition of the policies is paid for in month 0
abbrev pub expenses : Base → ℕ → Figure
expenses b t = if t == 0 then plus (times (Given b.basis.expense_acq) (pols_if_init b)) (maint b t) else maint b t

-- what is paid month by month, discounted to month 0, up to a month
abbrev pub worth_before : Base → ℕ → (ℕ → Figure) → Figure
worth_before b n paid = sum_of n (λ t. times (paid t) (disc_factor b t))

abbrev pub present_value : Base → (ℕ → Figure) → Figure
present_value b paid = worth_before b (proj_len b) paid

-- ---- the same as the code keeps it, a fault in the place of its number

-- the rates per month of year y
abbrev pub year_of : ℤ → ℤ → ℕ → Year
year_of mort_rate disc_rate y = record {
  mort_rate_mth = value (over (Given mort_rate) (Whole (pos 12)));
  lapse_rate_mth = value (over (lapse_rate y) (Whole (pos 12)));
  disc_mth = value (monthly (plus (Whole (pos 1)) (Given disc_rate)));
}

abbrev pub year_at : List ℤ → List ℤ → ℕ → Year
year_at mort disc y = year_of (rate mort y) (rate disc y) y

-- what month t begins with
abbrev pub opening_of : Base → ℕ → Opening
opening_of b t = record {
  pols_if = value (pols_if b t);
  pols_maturity = value (pols_maturity b t);
  inflation_factor = value (inflation_factor b t);
  disc_factor = value (disc_factor b t);
}

abbrev pub month_of : Base → ℕ → Month
month_of b t = record {
  opening = opening_of b t;
  mort_rate_mth = value (mort_rate_mth b t);
  pols_death = value (pols_death b t);
  pols_lapse = value (pols_lapse b t);
  expenses = value (expenses b t);
}

-- ---- what is said of the calls, for all rates

abbrev pub AreYears : List ℤ → List ℤ → ℕ → List Year → Type 0
AreYears mort disc count years = years ≡ first count (year_at mort disc)

abbrev pub AreMonths : Basis → List ℤ → List ℤ → List Month → Type 0
AreMonths basis mort disc months = months ≡ first (proj_len (base basis mort disc)) (month_of (base basis mort disc))

abbrev pub OpensAt : Basis → ℕ → Opening → Type 0
OpensAt basis t opening = (mort disc : List ℤ) → opening ≡ opening_of (base basis mort disc) t

abbrev pub AreExpenses : Basis → ℕ → Opening → Result ℤ NumFault → Type 0
AreExpenses basis t opening paid =
    (mort disc : List ℤ) → opening ≡ opening_of (base basis mort disc) t → paid ≡ value (expenses (base basis mort disc) t)

abbrev pub IsMonth : Basis → ℕ → Opening → Year → Month → Type 0
IsMonth basis t opening year month =
    (mort disc : List ℤ) → opening ≡ opening_of (base basis mort disc) t → year ≡ year_at mort disc (duration t)
    → month ≡ month_of (base basis mort disc) t

-- the opening of the month behind month t
abbrev pub IsFollowing : Basis → ℕ → Month → Year → Result ℤ NumFault → Opening → Type 0
IsFollowing basis t month year inflation opening =
    (mort disc : List ℤ) → month ≡ month_of (base basis mort disc) t → year ≡ year_at mort disc (duration t)
    → inflation ≡ value (inflation_mth (base basis mort disc)) → opening ≡ opening_of (base basis mort disc) (suc t)

abbrev pub AreMaturing : Basis → ℕ → Result ℤ NumFault → Result ℤ NumFault → Type 0
AreMaturing basis t before policies =
    (mort disc : List ℤ) (n : Figure) → before ≡ value n → policies ≡ value (maturing (base basis mort disc) t n)

abbrev pub IsInflation : Basis → Result ℤ NumFault → Type 0
IsInflation basis factor = (mort disc : List ℤ) → factor ≡ value (inflation_mth (base basis mort disc))

-- what is paid in a month, added to what was paid before it, both discounted
abbrev pub IsWorth : Result ℤ NumFault → Result ℤ NumFault → Month → Result ℤ NumFault → Type 0
IsWorth before paid month worth =
    (b : Base) (t : ℕ) (flow : ℕ → Figure) → before ≡ value (worth_before b t flow) → paid ≡ value (flow t) → month ≡ month_of b t
    → worth ≡ value (worth_before b (suc t) flow)
