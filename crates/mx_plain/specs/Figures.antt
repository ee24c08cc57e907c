-- Figures: how a number of a projection is computed from the numbers of a policy, step by step.
use Rattle.std.specs.Prelude.{◌≡◌, ℤ, pos, ◌*ℤ◌, int_le, if◌then◌else◌, ◌⊎◌, ◌^◌, Result, Ok, Err}
use Rattle.mx_value.specs.Rounding.{half_even}
use Rattle.mx_value.specs.Fixed.{and_then, checked, fixed_from_int, fixed_add, fixed_sub, fixed_mul, fixed_div, fixed_root}
use Rattle.mx_value.specs.declared.fixed.NumFault.{NumFault}

-- the steps that take two numbers; Larger is the greater one
pub data Step : Type 0 where
  Plus : Step
  Minus : Step
  Times : Step
  Over : Step
  Larger : Step

-- the steps that take one: the twelfth root, and rounding half to even at two decimals
pub data Change : Type 0 where
  Monthly : Change
  InCents : Change

-- A figure is a number of the policy or of a formula's text, a whole number, or a step from other figures.
pub data Figure : Type 0 where
  Given : ℤ → Figure
  Whole : ℤ → Figure
  Both : Step → Figure → Figure → Figure
  One : Change → Figure → Figure

abbrev pub plus : Figure → Figure → Figure
plus a b = Both Plus a b

abbrev pub minus : Figure → Figure → Figure
minus a b = Both Minus a b

abbrev pub times : Figure → Figure → Figure
times a b = Both Times a b

abbrev pub over : Figure → Figure → Figure
over a b = Both Over a b

abbrev pub larger : Figure → Figure → Figure
larger a b = Both Larger a b

abbrev pub monthly : Figure → Figure
monthly a = One Monthly a

abbrev pub in_cents : Figure → Figure
in_cents a = One InCents a

-- 0.0 and 1.0
abbrev pub nought : Figure
nought = Given (pos 0)

abbrev pub unity : Figure
unity = Given (pos (10 ^ 9))

-- what a step gives
abbrev pub stepped : Step → ℤ → ℤ → Result ℤ NumFault
stepped Plus x y = fixed_add x y
stepped Minus x y = fixed_sub x y
stepped Times x y = fixed_mul x y
stepped Over x y = fixed_div x y
stepped Larger x y = Ok (if int_le y x then x else y)

abbrev pub changed : Change → ℤ → Result ℤ NumFault
changed Monthly x = fixed_root x 12
changed InCents x = checked (half_even x (pos (10 ^ 7)) *ℤ pos (10 ^ 7))

-- the step over two numbers, either of which may be a fault
abbrev pub joined : Step → Result ℤ NumFault → Result ℤ NumFault → Result ℤ NumFault
joined step a b = and_then a (λ x. and_then b (λ y. stepped step x y))

abbrev pub turned : Change → Result ℤ NumFault → Result ℤ NumFault
turned change a = and_then a (λ x. changed change x)

-- the number that a figure is, or a fault
abbrev pub value : Figure → Result ℤ NumFault
value (Given x) = Ok x
value (Whole n) = fixed_from_int n
value (Both step a b) = joined step (value a) (value b)
value (One change a) = turned change (value a)

-- some step that the figure needs has this fault, and all its operands have numbers
abbrev pub Fails : Figure → NumFault → Type 0
Fails (Given x) fault = ⊥
Fails (Whole n) fault = fixed_from_int n ≡ Err fault
Fails (Both step a b) fault =
    Fails a fault ⊎ (Fails b fault ⊎ ((x : ℤ) × ((y : ℤ) × ((value a ≡ Ok x) × (value b ≡ Ok y) × (stepped step x y ≡ Err fault)))))
Fails (One change a) fault = Fails a fault ⊎ ((x : ℤ) × ((value a ≡ Ok x) × (changed change x ≡ Err fault)))
