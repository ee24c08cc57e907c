use Rattle.std.proofs.Common.{◌≡◌, ◌∷◌, take, length}
use Rattle.mx_code.proofs.emit.with_name.Given as goal

abbrev pub invariant-loop-local : goal.invariant-loop-local
invariant-loop-local l = l.more.items ≡ record { name = l.name; place = length l.scope } ∷ take l.local-index l.scope
