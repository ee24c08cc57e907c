use Rattle.std.proofs.Common.{subst, Option, List}
use Rattle.std.specs.Prelude.{MatchOption}
use Rattle.mx_c3.specs.declared.space.SpaceId.{SpaceId}
use Rattle.mx_rings.specs.Graph.{IsRing as IsRingOf, HasNoRing as HasNoRingIn}
use Rattle.mx_rings.proofs.RingLemmas.{links_closed, ring_within, ring_paths, no_ring_paths}
use Rattle.mx_rings.proofs.rings.ring_of.Goals as goal

pub ring_in-requires-clause-closed : goal.ring_in-requires-clause-closed
ring_in-requires-clause-closed c = links_closed c.args.text.now c.in_ok-links.links c.in_ok-links.ensures

pub paths_of-requires : goal.paths_of-requires
paths_of-requires c =
    let links = c.in_ok-links.links in
    let P : Option (List SpaceId) → Type 0 = λ found. MatchOption found (HasNoRingIn links) (IsRingOf links) in
    ring_within c.args.text.now links c.in_ok-links.ensures c.in-Some.ring (subst P c.in-Some.is c.in_ok-ring.ensures)

pub returns-in-Some : goal.returns-in-Some
returns-in-Some c =
    let links = c.in_ok-links.links in
    let P : Option (List SpaceId) → Type 0 = λ found. MatchOption found (HasNoRingIn links) (IsRingOf links) in
    rw c.in_ok-paths_of-in-Some.ensures (ring_paths c.args.text.now links c.in_ok-links.ensures c.kinds.ensures.once c.in-Some.ring (subst P c.in-Some.is c.in_ok-ring.ensures))

pub returns-in-None : goal.returns-in-None
returns-in-None c =
    let links = c.in_ok-links.links in
    let P : Option (List SpaceId) → Type 0 = λ found. MatchOption found (HasNoRingIn links) (IsRingOf links) in
    no_ring_paths c.args.text.now links c.in_ok-links.ensures c.kinds.ensures.once (subst P c.in-None.is c.in_ok-ring.ensures)
