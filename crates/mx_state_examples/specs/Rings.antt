-- Rings: nodes that ask one another in a round.
use Rattle.std.specs.Prelude.{List, [], ◌∷◌, codes}
use Rattle.mx_value.specs.declared.node.Node.TheVariants.{Cell}
use Rattle.mx_edit.specs.declared.key.Key.TheVariants as key
use Rattle.mx_runs.specs.Runs.{Gives, Event, Looked, Asked}
use Rattle.mx_runs.specs.Chains.{IsRing, MeansNothing}
use Rattle.mx_state.specs.Model.{model_of}
use Rattle.mx_state_examples.specs.Texts as text
use Rattle.mx_state_examples.specs.Texts.{main}
use Rattle.mx_state_examples.specs.Rows.{Runs, whole, gives, item, in_item, main_cell}

-- S[1] asks itself: it is a ring, which S[1].c() comes to
abbrev pub ItemAsksItself : Type 0
ItemAsksItself = IsRing (model_of text.asking_itself) (Cell (in_item (whole 1)) (codes "c") []) (item (whole 1) ∷ []) × MeansNothing (model_of text.asking_itself) (Cell (in_item (whole 1)) (codes "c") [])

-- f(1) and g(1) ask each other
abbrev pub CellsAskEachOther : Type 0
CellsAskEachOther =
    IsRing (model_of text.asking_round) (main_cell (codes "f") (whole 1 ∷ [])) (main_cell (codes "f") (whole 1 ∷ []) ∷ main_cell (codes "g") (whole 1 ∷ []) ∷ []) ×
    MeansNothing (model_of text.asking_round) (main_cell (codes "f") (whole 1 ∷ []))

-- once g(1) is 7, so is f(1)
abbrev pub mended_events : List Event
mended_events =
    Looked (key.Input (main_cell (codes "f") (whole 1 ∷ []))) ∷ Looked (key.Cells main (codes "f")) ∷ Looked (key.Name main (codes "g")) ∷ Looked (key.Cells main (codes "g"))
    ∷ Asked (main_cell (codes "g") (whole 1 ∷ [])) (gives (whole 7)) ∷ []

abbrev pub MendedRing : Type 0
MendedRing = Runs text.mended (main_cell (codes "f") (whole 1 ∷ [])) mended_events (Gives (gives (whole 7)))
