use Rattle.std.proofs.Common.{◌≡◌, [], Option, subst, arith}
use Rattle.std.specs.Prelude.{MatchOption}
use Rattle.mx_c3.specs.declared.space.SpaceId.{SpaceId}
use Rattle.mx_rings.specs.Search.{IsSeen, LeadsBack}
use Rattle.mx_rings.proofs.Steps.{back_ring, all_seen, seen_next}
use Rattle.mx_rings.proofs.search.ring_in.Goals as goal

pub loop-place-init : goal.loop-place-init
loop-place-init c = let e = c.in_ok-search.ensures in (e.search, e.empty, λ x l. absurd (omega arith))

pub visit-requires-clause-search : goal.visit-requires-clause-search
visit-requires-clause-search c = c.loop-place.invariant.0

pub visit-requires-clause-empty : goal.visit-requires-clause-empty
visit-requires-clause-empty c = c.loop-place.invariant.1

pub returns-in-Some : goal.returns-in-Some
returns-in-Some c =
    let visit = c.in_ok-x.ensures in
    let s = c.visit.new.self in
    let comes = subst (λ (o : Option SpaceId). MatchOption o ((s.way.items ≡ []) × IsSeen s (record { 0 = c.loop-place.place })) (LeadsBack c.args.graph.now s.way.items)) c.in-Some.is visit.comes in
    back_ring c.args.graph.now s c.in-Some.x c.in_ok-from-in-Some.field-0 visit.search comes c.in_ok-from-in-Some.ensures

pub loop-place-preserved : goal.loop-place-preserved
loop-place-preserved c =
    let visit = c.in_ok-x.ensures in
    let s = c.visit.new.self in
    let comes = subst (λ (o : Option SpaceId). MatchOption o ((s.way.items ≡ []) × IsSeen s (record { 0 = c.loop-place.place })) (LeadsBack c.args.graph.now s.way.items)) c.in-None.is visit.comes in
    (visit.search, comes.0, seen_next s c.loop-place.place (λ x l. visit.seen x (c.loop-place.invariant.2 x l)) comes.1)

pub returns : goal.returns
returns c = all_seen c.args.graph.now c.loop-place.search c.loop-place.invariant.0 c.loop-place.invariant.1 (λ x l. c.loop-place.invariant.2 x (omega arith))
