use Rattle.std.proofs.Common.{◌≡◌, true, rules}
use Rattle.mx_value.specs.Name.{same_name}
use Rattle.mx_lookup.proofs.Overlaying.{overlaid_at}
use Rattle.mx_lookup.proofs.overlays.place_of.Goals as goal

pub returns-then-eq-clause-found : goal.returns-then-eq-clause-found
returns-then-eq-clause-found c = λ v.
    let o = c.index-overlay-at.result in
    let e : same_name o.0 c.args.name.now ≡ true = search rules in
    overlaid_at c.args.overlay.now c.loop-at.at c.args.name.now o c.loop-at-test.true c.index-overlay-at.is v ((c.equality_laws.ensures.label o.0 c.args.name.now).0 e) e (c.loop-at.invariant v)
