-- The worked examples, cleared: what is held of them afterwards.
use Rattle.std.specs.Prelude.{[], ◌∷◌, ◌++◌, codes}
use Rattle.mx_edit.specs.declared.scope.Scope.TheVariants as scope
use Rattle.mx_state.specs.Changes.{Clearing}
use Rattle.mx_state_examples.specs.Texts as text
use Rattle.mx_state_examples.specs.Rows.{whole, top, in_item}
use Rattle.mx_state_examples.specs.Evaluations.{holding, item_entry, of_two, of_true, of_a, of_choice, a_cell, c_cell}

-- ---- of c() = a() if flag else b(), and a()

-- clear node a(): c() goes with it
abbrev pub AskedIsCleared : Type 0
AskedIsCleared = Clearing (holding text.choosing of_choice) (scope.One a_cell) (holding text.choosing [])

-- clear node c(): a() stays
abbrev pub AskerIsCleared : Type 0
AskerIsCleared = Clearing (holding text.choosing of_choice) (scope.One c_cell) (holding text.choosing of_a)

-- ---- of S[2], S[True], and c(1) in each

-- clear space S[2]: S[True] and its cells stay
abbrev pub ItemIsCleared : Type 0
ItemIsCleared = Clearing (holding text.multiplying (of_two ++ of_true)) (scope.Space (in_item (whole 2))) (holding text.multiplying of_true)

-- clear cells S[2].c: S[2] stays too
abbrev pub CellsAreCleared : Type 0
CellsAreCleared = Clearing (holding text.multiplying (of_two ++ of_true)) (scope.Cells (in_item (whole 2)) (codes "c")) (holding text.multiplying (item_entry (whole 2) ∷ of_true))

-- clear cells S.c: those in items are at other addresses
abbrev pub CellsOutsideAreCleared : Type 0
CellsOutsideAreCleared = Clearing (holding text.multiplying (of_two ++ of_true)) (scope.Cells (top (codes "S")) (codes "c")) (holding text.multiplying (of_two ++ of_true))

-- clear space S: nothing stays
abbrev pub SpaceIsCleared : Type 0
SpaceIsCleared = Clearing (holding text.multiplying (of_two ++ of_true)) (scope.Space (top (codes "S"))) (holding text.multiplying [])
