-- A search through a graph in depth, along one way at a time.
use Rattle.std.specs.Prelude.{◌≡◌, ℕ, ◌<◌, ◌+◌, List, [], ◌∷◌, ◌++◌, length, Option, Some, slice_get, slice_index_or, slice_set, drop, MatchOption}
use Rattle.mx_c3.specs.declared.space.SpaceId.{SpaceId}
use Rattle.mx_c3.specs.Lists.{Has, Distinct}
use Rattle.mx_c3.specs.Linearisation.{bases_of}
use Rattle.mx_rings.specs.declared.search.Stage.{Stage}
use Rattle.mx_rings.specs.declared.search.Stage.TheVariants.{Unseen, OnWay, Done}
use Rattle.mx_rings.specs.declared.search.Search.{Search}
use Rattle.mx_rings.specs.declared.search.Turn.{Turn}
use Rattle.mx_rings.specs.declared.search.Turn.TheVariants as turn

-- each vertex stands before all its successors
abbrev pub AreDone : List (List SpaceId) → List SpaceId → Type 0
AreDone graph [] = Unit {0}
AreDone graph (x ∷ done) = ((y : SpaceId) → Has (bases_of graph x) y → Has done y) × AreDone graph done

-- each leads to the next
abbrev pub IsWay : List (List SpaceId) → List SpaceId → Type 0
IsWay graph [] = Unit {0}
IsWay graph (x ∷ []) = Unit {0}
IsWay graph (x ∷ (y ∷ way)) = Has (bases_of graph x) y × IsWay graph (y ∷ way)

-- the vertices on the way are those that are marked so, each once; from those that are done one comes to others that are done
-- alone; and the successors of a vertex that were passed are done
pub record Searching (graph : List (List SpaceId)) (stages : List Stage) (passed : List ℕ) (way : List SpaceId) : Type 0 where
  pub stages_long : length stages ≡ length graph
  pub passed_long : length passed ≡ length graph
  pub done : List SpaceId
  pub in_turn : AreDone graph done
  pub marked : (x : SpaceId) → slice_get stages x.0 ≡ Some Done → Has done x
  pub behind : (x y : SpaceId) (i : ℕ) → i < slice_index_or passed x.0 0 → slice_get (bases_of graph x) i ≡ Some y → Has done y
  pub along : IsWay graph way
  pub once : Distinct way
  pub here : (x : SpaceId) → Has way x → slice_get stages x.0 ≡ Some OnWay
  pub only : (x : SpaceId) → slice_get stages x.0 ≡ Some OnWay → Has way x

abbrev pub IsSearch : List (List SpaceId) → Search → Type 0
IsSearch graph s = Searching graph s.stages.items s.passed.items s.way.items

abbrev pub stage_of : Search → SpaceId → Option Stage
stage_of s x = slice_get s.stages.items x.0

abbrev pub IsSeen : Search → SpaceId → Type 0
IsSeen s x = stage_of s x ≡ Some Unseen → ⊥

-- what was seen stays so
abbrev pub KeepsSeen : Search → Search → Type 0
KeepsSeen old new = (x : SpaceId) → IsSeen old x → IsSeen new x

-- the last vertex of a way
pub record EndsWith (way : List SpaceId) (last : SpaceId) : Type 0 where
  pub front : List SpaceId
  pub is : way ≡ front ++ last ∷ []

-- a vertex comes to this stage and the way is then another; how many successors were passed stays
pub record Moves (x : SpaceId) (stage : Stage) (onward : List SpaceId) (old new : Search) : Type 0 where
  pub stages : new.stages.items ≡ slice_set old.stages.items x.0 stage
  pub passed : new.passed.items ≡ old.passed.items
  pub way : new.way.items ≡ onward

-- the last vertex of a way leads back to one of the way
pub record LeadsBack (graph : List (List SpaceId)) (way : List SpaceId) (to : SpaceId) : Type 0 where
  pub among : Has way to
  pub last : SpaceId
  pub ends : EndsWith way last
  pub leads : Has (bases_of graph last) to

-- where a way can go on: at its end there is a successor that is not done, or there is no way yet
abbrev pub CanEnter : List (List SpaceId) → List SpaceId → SpaceId → Type 0
CanEnter graph way x = (last : SpaceId) → EndsWith way last → Has (bases_of graph last) x

-- one more successor of a vertex is passed
pub record Passes (x : SpaceId) (old new : Search) : Type 0 where
  pub stages : new.stages.items ≡ old.stages.items
  pub passed : new.passed.items ≡ slice_set old.passed.items x.0 (slice_index_or old.passed.items x.0 0 + 1)
  pub way : new.way.items ≡ old.way.items

abbrev pub ComesTo : List (List SpaceId) → List SpaceId → Turn → Type 0
ComesTo graph way turn.Further = Unit {0}
ComesTo graph way (turn.Back to) = LeadsBack graph way to
ComesTo graph way turn.End = way ≡ []

-- a step of a search
pub record IsStep (graph : List (List SpaceId)) (old new : Search) (t : Turn) : Type 0 where
  pub search : IsSearch graph new
  pub seen : KeepsSeen old new
  pub comes : ComesTo graph new.way.items t

-- all ways from a vertex were followed, up to one that leads back
pub record IsVisit (graph : List (List SpaceId)) (x : SpaceId) (old new : Search) (found : Option SpaceId) : Type 0 where
  pub search : IsSearch graph new
  pub seen : KeepsSeen old new
  pub comes : MatchOption found ((new.way.items ≡ []) × IsSeen new x) (LeadsBack graph new.way.items)

-- the rest of a way from a vertex on
pub record IsFrom (way : List SpaceId) (x : SpaceId) (rest : List SpaceId) : Type 0 where
  pub place : ℕ
  pub at : slice_get way place ≡ Some x
  pub is : rest ≡ drop place way
