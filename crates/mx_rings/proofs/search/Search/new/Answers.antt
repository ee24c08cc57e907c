use Rattle.std.proofs.Common.{◌≡◌, ℕ, List, length, replicate, sym, subst, arith}
use Rattle.mx_c3.specs.declared.space.SpaceId.{SpaceId}
use Rattle.mx_rings.specs.declared.search.Stage.{Stage}
use Rattle.mx_rings.specs.declared.search.Stage.TheVariants.{Unseen}
use Rattle.mx_rings.specs.Search.{Searching}
use Rattle.mx_rings.proofs.SearchLemmas.{none, search_begins}
use Rattle.mx_rings.proofs.search.Search.new.Goals as goal

pub returns-clause-search : goal.returns-clause-search
returns-clause-search c =
    let graph = c.args.graph.now in
    let n : c.loop.counter ≡ length graph = omega arith in
    let P : ℕ → Type 0 = λ k. Searching graph (replicate k Unseen) (replicate k none) c.new.result.items in
    let Q : List SpaceId → Type 0 = λ w. Searching graph (replicate (length graph) Unseen) (replicate (length graph) none) w in
    let R : List Stage → Type 0 = λ z. Searching graph z (replicate c.loop.counter none) c.new.result.items in
    let S : List ℕ → Type 0 = λ z. Searching graph c.loop.stages.items z c.new.result.items in
    subst S (sym c.loop.invariant.1) (subst R (sym c.loop.invariant.0) (subst P (sym n) (subst Q (sym c.new.ensures.items) (search_begins graph))))
