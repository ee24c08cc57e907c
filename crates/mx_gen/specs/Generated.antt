-- The edits that make the generated model.
use Rattle.std.specs.Prelude.{ℕ, zero, suc, pos, ◌+◌, ◌*◌, ◌/◌, ◌%◌, ◌^◌, ◌==◌, min, List, [], ◌∷◌, ◌++◌, if◌then◌else◌, codes}
use Rattle.std.specs.Fmt.{decimal}
use Rattle.mx_syntax.specs.declared.stmt.Formula.{Formula}
use Rattle.mx_edit.specs.declared.edit.Edit.{Edit}
use Rattle.mx_edit.specs.declared.edit.Edit.TheVariants.{NewSpace, SetBases, SetCells}
use Rattle.mx_gen.specs.Formulas.{f_formula, g_formula}

-- Numbers come from a linear congruence modulo 2^64. Its state after another draw:
abbrev pub after : ℕ → ℕ
after x = (x * 6364136223846793005 + 1442695040888963407) % 2 ^ 64

-- a draw below k from the state after it, by its upper 31 bits
abbrev pub drawn : ℕ → ℕ → ℕ
drawn x k = (x / 2 ^ 33) % k

-- the space of this number
abbrev pub space_name : ℕ → List ℕ
space_name i = codes "S" ++ decimal i

abbrev pub path_of : ℕ → List (List ℕ)
path_of i = space_name i ∷ []

abbrev pub new_space : ℕ → Edit
new_space i = NewSpace [] (space_name i)

-- each space but the first has one base, drawn among the first fifty that are there
abbrev pub base_edits : ℕ → ℕ → List Edit
base_edits i x = if i == 0 then [] else SetBases (path_of i) (path_of (drawn (after x) (min i 50)) ∷ []) ∷ []

abbrev pub after_base : ℕ → ℕ → ℕ
after_base i x = if i == 0 then x else after x

abbrev pub set_cells : ℕ → List ℕ → Formula → Edit
set_cells i name formula = SetCells (path_of i) name formula

abbrev pub set_f : ℕ → ℕ → Edit
set_f i x = set_cells i (codes "f") (f_formula (pos (drawn (after x) 1000)))

abbrev pub set_g : ℕ → ℕ → Edit
set_g i factor = set_cells i (codes "g") (g_formula (pos factor))

-- Spaces of even numbers have cells f with a drawn start, those of odd numbers cells g with a drawn factor. The first has both.
abbrev pub cells_edits : ℕ → ℕ → List Edit
cells_edits i x =
    if i % 2 == 0 then set_f i x ∷ (if i == 0 then set_g i 3 ∷ [] else []) else set_g i (2 + drawn (after x) 7) ∷ []

-- the edits that make a space, from a state on
abbrev pub space_edits : ℕ → ℕ → List Edit
space_edits i x = new_space i ∷ (base_edits i x ++ cells_edits i (after_base i x))

-- the state behind them
abbrev pub after_space : ℕ → ℕ → ℕ
after_space i x = after (after_base i x)

-- the state before the space of this number
abbrev pub state_at : ℕ → ℕ → ℕ
state_at seed zero = seed
state_at seed (suc i) = after_space i (state_at seed i)

-- the edits of the first n spaces
abbrev pub edits_of : ℕ → ℕ → List Edit
edits_of seed zero = []
edits_of seed (suc n) = edits_of seed n ++ space_edits n (state_at seed n)
