use Rattle.std.proofs.Common.{◌≡◌, drop}
use Rattle.mx_code.specs.Names.{place_of}
use Rattle.mx_code.proofs.emit.place.Given as goal

-- no local so far has the name
abbrev pub invariant-loop-local : goal.invariant-loop-local
invariant-loop-local l = place_of l.fn.scope l.name ≡ place_of (drop l.local-index l.scope) l.name
