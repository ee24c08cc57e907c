use Rattle.std.proofs.Common.{◌≡◌, drop}
use Rattle.mx_model.specs.Keys.{key_result}
use Rattle.mx_walks.specs.Ways.{way_of}
use Rattle.mx_walks.proofs.going.go_on.Given as goal

abbrev pub invariant-loop-place : goal.invariant-loop-place
invariant-loop-place l = way_of (key_result l.world) l.segments l.fn.from ≡ way_of (key_result l.world) (drop l.place l.segments) l.going
