-- The linearisations of the defined spaces, each made once.
use Rattle.std.specs.Prelude.{◌≡◌, ℕ, ◌<◌, List, [], ◌∷◌, length, Option, Some, None, Result, Ok, Err, slice_get}
use Rattle.mx_c3.specs.declared.space.SpaceId.{SpaceId}
use Rattle.mx_c3.specs.Known.{known}
use Rattle.mx_c3.specs.Linearisation.{c3}
use Rattle.mx_model.specs.declared.layers.Layered.{Layered}
use Rattle.mx_model.specs.declared.layers.Layered.TheVariants.{Layers, NoOrder}

abbrev pub Orders : Type 0
Orders = List (Option (List SpaceId))

-- an answer where there is one
abbrev pub told : {X : Type 0} → Result X (List SpaceId) → Option X
told (Ok answer) = Some answer
told (Err blocked) = None

-- the first places have the orders of their spaces
pub record AreOrders (lists : List (List SpaceId)) (orders : Orders) (count : ℕ) : Type 0 where
  pub long : length orders ≡ count
  pub each : (s : SpaceId) → s.0 < count → slice_get orders s.0 ≡ Some (told (c3 lists s))

abbrev pub before_both : Option (List SpaceId) → Option (List (List SpaceId)) → Option (List (List SpaceId))
before_both (Some order) (Some orders) = Some (order ∷ orders)
before_both _ _ = None

-- the orders of all these spaces, where each has one
abbrev pub all_known : Orders → List SpaceId → Option (List (List SpaceId))
all_known orders [] = Some []
all_known orders (s ∷ spaces) = before_both (known orders s) (all_known orders spaces)

-- a path with an order, or one without
abbrev pub layered_by : Option (List SpaceId) → Layered
layered_by (Some order) = Layers order
layered_by None = NoOrder
