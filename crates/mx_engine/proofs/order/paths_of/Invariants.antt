use Rattle.std.proofs.Common.{◌≡◌, map, take, Some}
use Rattle.mx_model.specs.Readers.{path_in}
use Rattle.mx_engine.proofs.order.paths_of.Given as goal

abbrev pub invariant-loop-s : goal.invariant-loop-s
invariant-loop-s l = map (path_in l.text) (take l.s-index l.s-items) ≡ map (λ p. Some p) l.paths.items
