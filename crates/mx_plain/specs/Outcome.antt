-- What a projection gives by the formulas of its rows and present values.
use Rattle.std.specs.Prelude.{Result, IsErrOf, Err, ◌≡◌, ◌≢◌, ℕ, ◌+◌, ◌<◌, ◌⊎◌, ℤ, List, length, map, Ok}
use Rattle.std.specs.List.{Contains}
use Rattle.mx_value.specs.declared.fixed.NumFault.{NumFault}
use Rattle.mx_plain.specs.declared.projection.PlainRefusal.{PlainRefusal}
use Rattle.mx_plain.specs.declared.projection.PlainRefusal.TheVariants.{Num}
use Rattle.mx_plain.specs.Figures.{Figure, value, Fails}
use Rattle.mx_plain.specs.Months.{first}

-- A term has 1 to 80 years, and there is one rate for each year from 0 to the term.
abbrev pub IsBad : ℕ → List ℤ → List ℤ → Type 0
IsBad term mort disc = (term < 1) ⊎ (80 < term) ⊎ (length mort ≢ term + 1) ⊎ (length disc ≢ term + 1)

-- these are the numbers of the figures; so each figure has one
abbrev pub AreNumbers : List Figure → List ℤ → Type 0
AreNumbers figures numbers = map value figures ≡ map Ok numbers

-- the same of the rows of the first n months
abbrev pub AreRows : ℕ → (ℕ → List Figure) → List (List ℤ) → Type 0
AreRows n row rows = map (map value) (first n row) ≡ map (map Ok) rows

-- a step that one of the figures needs has this fault
abbrev pub OneFails : List Figure → NumFault → Type 0
OneFails figures fault = (figure : Figure) × (Contains figures figure × Fails figure fault)

-- a step that one of the first n rows or a present value needs has this fault
abbrev pub Faulty : ℕ → (ℕ → List Figure) → List Figure → NumFault → Type 0
Faulty n row pv fault = ((t : ℕ) × ((t < n) × OneFails (row t) fault)) ⊎ OneFails pv fault

-- where the answer is a fault, it is one of these
abbrev pub Tells : {T : Type 0} → Result T PlainRefusal → (NumFault → Type 0) → Type 0
Tells answer IsFault = (fault : NumFault) → IsErrOf answer (Num fault) → IsFault fault

-- a figure's fault is that of a step whose operands all have numbers
abbrev pub FaultIsOfStep : Type 0
FaultIsOfStep = (figure : Figure) (fault : NumFault) → value figure ≡ Err fault → Fails figure fault

-- no step fails that a figure with a number needs
abbrev pub NumberStands : Type 0
NumberStands = (figure : Figure) (fault : NumFault) (x : ℤ) → value figure ≡ Ok x → ¬ (Fails figure fault)
