-- The order in which nodes are held.
use Rattle.std.specs.Prelude.{ℕ, ◌<◌, ◌≤◌, List, [], ◌∷◌}
use Rattle.mx_vertices.specs.Places.{Has}
use Rattle.mx_vertices.specs.Kept.{Kept}
use Rattle.mx_memo.specs.Memos.{Memory}
use Rattle.mx_memo.specs.Restoring.{AreApart}

-- the stamps rise, each above this one
abbrev pub StampsRise : ℕ → List Kept → Type 0
StampsRise p [] = Unit {0}
StampsRise p (r ∷ rs) = (p < r.stamp) × StampsRise r.stamp rs

-- each node is held under an id of its own, the stamps rise from above 0, and none is above the last that was given
pub record IsInOrder (m : Memory) : Type 0 where
  pub apart : AreApart m.held
  pub rising : StampsRise 0 m.held
  pub given : (r : Kept) → Has m.held r → r.stamp ≤ m.last
