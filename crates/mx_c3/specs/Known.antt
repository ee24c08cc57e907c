-- A table of the orders that are known, by the space's place.
use Rattle.std.specs.Prelude.{List, [], ◌∷◌, Option, Some, None, slice_get}
use Rattle.mx_c3.specs.declared.space.SpaceId.{SpaceId}

abbrev pub known_in : Option (Option (List SpaceId)) → Option (List SpaceId)
known_in None = None
known_in (Some order) = order

abbrev pub known : List (Option (List SpaceId)) → SpaceId → Option (List SpaceId)
known orders s = known_in (slice_get orders s.0)

-- the first of these whose order is not known
abbrev pub first_unknown : List (Option (List SpaceId)) → List SpaceId → Option SpaceId
first_unknown orders [] = None
first_unknown orders (b ∷ bs) = elim (known orders b) [ None ↦ Some b | Some order ↦ first_unknown orders bs ]

-- the orders of these, as far as they are known
abbrev pub orders_of : List (Option (List SpaceId)) → List SpaceId → List (List SpaceId)
orders_of orders [] = []
orders_of orders (b ∷ bs) = elim (known orders b) [ None ↦ orders_of orders bs | Some order ↦ order ∷ orders_of orders bs ]
