-- Rings of a graph, which has the successors of each vertex by its place.
use Rattle.std.specs.Prelude.{List, [], ◌∷◌, ◌<◌, length}
use Rattle.mx_c3.specs.declared.space.SpaceId.{SpaceId}
use Rattle.mx_c3.specs.Lists.{Among, Distinct}
use Rattle.mx_c3.specs.Linearisation.{Leads, Reaches}

-- each leads to the next and the last to the first, and none stands twice
abbrev pub IsRing : List (List SpaceId) → List SpaceId → Type 0
IsRing graph [] = ⊥
IsRing graph (x ∷ xs) = Distinct (x ∷ xs) × Leads graph x xs x

-- from no vertex one comes back to it
abbrev pub HasNoRing : List (List SpaceId) → Type 0
HasNoRing graph = (x : SpaceId) → Reaches graph x x → ⊥

-- each successor is a vertex
abbrev pub IsClosed : List (List SpaceId) → Type 0
IsClosed graph = (x : SpaceId) → Among graph x → x.0 < length graph
