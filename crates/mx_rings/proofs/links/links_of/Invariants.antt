use Rattle.mx_rings.specs.Links.{LinksUpTo}
use Rattle.mx_rings.proofs.links.links_of.Given as goal

abbrev pub invariant-loop-place : goal.invariant-loop-place
invariant-loop-place l = LinksUpTo l.text l.place l.links.items
