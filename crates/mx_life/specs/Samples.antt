-- The files of the sample projects: each a list of lines, and each line with its end.
use Rattle.std.specs.Prelude.{ℕ, zero, suc, ◌+◌, ◌*◌, ◌-◌, ◌/◌, ◌%◌, ◌==◌, nat_lt, List, [], ◌∷◌, ◌++◌, map, if◌then◌else◌, codes}
use Rattle.mx_life.specs.declared.project.Product.{Product}
use Rattle.mx_life.specs.declared.project.Product.TheVariants.{Term, Savings}

abbrev pub Line : Type 0
Line = List ℕ

-- the bytes of lines, each with its end
abbrev pub text : List Line → List ℕ
text [] = []
text (line ∷ lines) = line ++ (10 ∷ text lines)

-- lines that all begin so
abbrev pub begun : Line → List Line → List Line
begun word [] = []
begun word (line ∷ lines) = (word ++ line) ∷ begun word lines

-- ---- tables

-- so many digits of a number
abbrev pub digits : ℕ → ℕ → List ℕ
digits zero n = []
digits (suc places) n = digits places (n / 10) ++ (48 + n % 10) ∷ []

-- one digit and so many more, without zeros at the end but a first one
abbrev pub trimmed : ℕ → ℕ → List ℕ
trimmed zero n = digits 1 n
trimmed (suc more) n = if n % 10 == 0 then trimmed more (n / 10) else digits (suc (suc more)) n

-- a number below 1,000
abbrev pub number_text : ℕ → List ℕ
number_text n = if nat_lt n 10 then digits 1 n else (if nat_lt n 100 then digits 2 n else digits 3 n)

-- a rate of that many 10^-9, below 1.0
abbrev pub rate_text : ℕ → List ℕ
rate_text raw = codes "0." ++ trimmed 8 raw

-- so many rows of a table, from a key on
abbrev pub rows : (ℕ → ℕ) → ℕ → ℕ → List Line
rows raw key zero = []
rows raw key (suc more) = (number_text key ++ (codes "," ++ rate_text (raw key))) ∷ rows raw (suc key) more

-- mortality at the ages from 20 to 100
abbrev pub table_mort : List Line
table_mort = codes "age,rate" ∷ rows (λ a. 500000 + 20000 * (a - 20) * (a - 20)) 20 81

-- interest in the years from 0 to 80
abbrev pub table_disc : List Line
table_disc = codes "year,zero" ∷ rows (λ y. 10000000 + 100000 * y) 0 81

-- ---- models

abbrev pub model : Line → List Line
model product =
    codes "mx project 1" ∷
    codes "space Base" ∷
    (codes "space " ++ product) ∷
    (codes "bases " ++ product ++ codes ": Base") ∷
    codes "table mort" ∷
    codes "table disc" ∷ []

-- the cells that both products have
abbrev pub base_formulas : List Line
base_formulas =
    codes "proj_len() = 12 * policy_term + 1" ∷
    codes "duration(t) = t // 12" ∷
    codes "age(t) = age_at_entry + duration(t)" ∷
    codes "mort_rate(t) = mort[age(t), \"rate\"]" ∷
    codes "mort_rate_mth(t) = mort_rate(t) / 12" ∷
    codes "lapse_rate(t) = max(0.1 - 0.02 * duration(t), 0.02)" ∷
    codes "lapse_rate_mth(t) = lapse_rate(t) / 12" ∷
    codes "pols_if_init() = fixed(policy_count)" ∷
    codes "pols_if(t) = pols_if_init() if t == 0 else pols_if(t - 1) - pols_lapse(t - 1) - pols_death(t - 1) - pols_maturity(t)" ∷
    codes "pols_death(t) = pols_if(t) * mort_rate_mth(t)" ∷
    codes "pols_lapse(t) = (pols_if(t) - pols_death(t)) * lapse_rate_mth(t)" ∷
    codes "pols_maturity(t) = pols_if(t - 1) - pols_lapse(t - 1) - pols_death(t - 1) if t == 12 * policy_term else 0.0" ∷
    codes "inflation_mth() = nroot(1 + inflation_rate, 12)" ∷
    codes "inflation_factor(t) = 1.0 if t == 0 else inflation_factor(t - 1) * inflation_mth()" ∷
    codes "disc_rate(t) = disc[duration(t), \"zero\"]" ∷
    codes "disc_mth(t) = nroot(1 + disc_rate(t), 12)" ∷
    codes "disc_factor(t) = 1.0 if t == 0 else disc_factor(t - 1) / disc_mth(t - 1)" ∷
    codes "maint(t) = pols_if(t) * expense_maint / 12 * inflation_factor(t)" ∷
    codes "expenses(t) = expense_acq * pols_if_init() + maint(t) if t == 0 else maint(t)" ∷
    codes "pv_pols_if() = sum(pols_if(t) * disc_factor(t) for t in range(proj_len()))" ∷
    codes "pv_premiums() = sum(premiums(t) * disc_factor(t) for t in range(proj_len()))" ∷
    codes "pv_claims() = sum(claims(t) * disc_factor(t) for t in range(proj_len()))" ∷
    codes "pv_expenses() = sum(expenses(t) * disc_factor(t) for t in range(proj_len()))" ∷
    codes "pv_commissions() = sum(commissions(t) * disc_factor(t) for t in range(proj_len()))" ∷ []

-- the cells of the term assurance
abbrev pub term_formulas : List Line
term_formulas =
    codes "claims(t) = sum_assured * pols_death(t)" ∷
    codes "net_premium_pp() = pv_claims() / pv_pols_if()" ∷
    codes "premium_pp() = round((1 + loading_prem) * net_premium_pp(), 2)" ∷
    codes "premiums(t) = premium_pp() * pols_if(t)" ∷
    codes "commissions(t) = premiums(t) if duration(t) == 0 else 0.0" ∷
    codes "net_cf(t) = premiums(t) - claims(t) - expenses(t) - commissions(t)" ∷
    codes "pv_net_cf() = pv_premiums() - pv_claims() - pv_expenses() - pv_commissions()" ∷
    codes "result_names() = (\"pols_if\", \"premiums\", \"claims\", \"expenses\", \"commissions\", \"net_cf\")" ∷
    codes "result_cf(t) = (pols_if(t), premiums(t), claims(t), expenses(t), commissions(t), net_cf(t))" ∷
    codes "result_pv() = (pv_pols_if(), pv_premiums(), pv_claims(), pv_expenses(), pv_commissions(), pv_net_cf())" ∷
    codes "policy() = (\"term\", policy_term, policy_count, sum_assured, expense_acq, expense_maint, inflation_rate, loading_prem)" ∷ []

-- the cells of the savings product
abbrev pub savings_formulas : List Line
savings_formulas =
    codes "premium_pp(t) = fixed(single_premium) if t == 0 else 0.0" ∷
    codes "av_pp(t) = 0.0 if t == 0 else av_end_pp(t - 1)" ∷
    codes "av_in_pp(t) = av_pp(t) + premium_pp(t) * (1 - load_prem_rate)" ∷
    codes "fee_pp(t) = av_in_pp(t) * fee_rate" ∷
    codes "coi_pp(t) = max(sum_assured - av_in_pp(t), 0.0) * mort_rate_mth(t)" ∷
    codes "inv_mth() = nroot(1 + inv_rate, 12) - 1" ∷
    codes "inv_pp(t) = (av_in_pp(t) - fee_pp(t) - coi_pp(t)) * inv_mth()" ∷
    codes "av_end_pp(t) = av_in_pp(t) - fee_pp(t) - coi_pp(t) + inv_pp(t)" ∷
    codes "premiums(t) = premium_pp(t) * pols_if(t)" ∷
    codes "claims(t) = max(sum_assured, av_in_pp(t)) * pols_death(t)" ∷
    codes "surrenders(t) = av_end_pp(t) * pols_lapse(t)" ∷
    codes "maturities(t) = av_pp(t) * pols_maturity(t)" ∷
    codes "commissions(t) = premiums(t) * 0.05" ∷
    codes "net_cf(t) = premiums(t) - claims(t) - surrenders(t) - maturities(t) - expenses(t) - commissions(t)" ∷
    codes "pv_surrenders() = sum(surrenders(t) * disc_factor(t) for t in range(proj_len()))" ∷
    codes "pv_maturities() = sum(maturities(t) * disc_factor(t) for t in range(proj_len()))" ∷
    codes "pv_net_cf() = pv_premiums() - pv_claims() - pv_surrenders() - pv_maturities() - pv_expenses() - pv_commissions()" ∷
    codes "result_names() = (\"pols_if\", \"av_pp\", \"premiums\", \"claims\", \"surrenders\", \"maturities\", \"expenses\", \"commissions\", \"net_cf\")" ∷
    codes "result_cf(t) = (pols_if(t), av_pp(t), premiums(t), claims(t), surrenders(t), maturities(t), expenses(t), commissions(t), net_cf(t))" ∷
    codes "result_pv() = (pv_pols_if(), 0.0, pv_premiums(), pv_claims(), pv_surrenders(), pv_maturities(), pv_expenses(), pv_commissions(), pv_net_cf())" ∷
    codes "policy() = (\"savings\", policy_term, policy_count, sum_assured, expense_acq, expense_maint, inflation_rate, single_premium, load_prem_rate, fee_rate, inv_rate)" ∷ []

-- the references that both products have
abbrev pub base_references : List Line
base_references =
    codes "ref Base.mort = table mort" ∷
    codes "ref Base.disc = table disc" ∷
    codes "ref Base.expense_acq = 300" ∷
    codes "ref Base.expense_maint = 60" ∷
    codes "ref Base.inflation_rate = 0.01" ∷ []

-- those of the term assurance
abbrev pub term_references : List Line
term_references =
    codes "age_at_entry = 30" ∷
    codes "policy_term = 10" ∷
    codes "sum_assured = 100000" ∷
    codes "policy_count = 1" ∷
    codes "loading_prem = 0.5" ∷ []

-- those of the savings product
abbrev pub savings_references : List Line
savings_references =
    codes "age_at_entry = 40" ∷
    codes "policy_term = 10" ∷
    codes "sum_assured = 500000" ∷
    codes "single_premium = 450000" ∷
    codes "policy_count = 100" ∷
    codes "load_prem_rate = 0.05" ∷
    codes "fee_rate = 0.0005" ∷
    codes "inv_rate = 0.02" ∷ []

abbrev pub space_base : List Line
space_base = begun (codes "cells Base.") base_formulas

abbrev pub space_term : List Line
space_term = begun (codes "cells Term.") term_formulas ++ codes "params Term(age_at_entry, policy_term, sum_assured, policy_count=1)" ∷ []

abbrev pub space_savings : List Line
space_savings = begun (codes "cells Savings.") savings_formulas ++ codes "params Savings(age_at_entry, policy_term, sum_assured, single_premium, policy_count=1)" ∷ []

abbrev pub refs : Line → List Line → List Line
refs product references = base_references ++ begun (codes "ref " ++ product ++ codes ".") references

-- ---- files, in the order in which a project is read: a name and its bytes

abbrev pub File : Type 0
File = List ℕ × List ℕ

abbrev pub file : Line → List Line → File
file name lines = (name, text lines)

abbrev pub term_s : List File
term_s =
    file (codes "model.mx") (model (codes "Term")) ∷
    file (codes "table_mort.csv") table_mort ∷
    file (codes "table_disc.csv") table_disc ∷
    file (codes "space_Base.mx") space_base ∷
    file (codes "space_Term.mx") space_term ∷
    file (codes "refs.mx") (refs (codes "Term") term_references) ∷
    file (codes "inputs.mx") [] ∷ []

abbrev pub savings_s : List File
savings_s =
    file (codes "model.mx") (model (codes "Savings")) ∷
    file (codes "table_mort.csv") table_mort ∷
    file (codes "table_disc.csv") table_disc ∷
    file (codes "space_Base.mx") space_base ∷
    file (codes "space_Savings.mx") space_savings ∷
    file (codes "refs.mx") (refs (codes "Savings") savings_references) ∷
    file (codes "inputs.mx") [] ∷ []

abbrev pub files_of : Product → List File
files_of Term = term_s
files_of Savings = savings_s
