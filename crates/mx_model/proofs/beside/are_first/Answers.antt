use Rattle.std.proofs.Common.{map, arith}
use Rattle.mx_model.specs.Records.{Path, SpaceRecord}
use Rattle.mx_model.proofs.Fronts.{front_more}
use Rattle.mx_model.proofs.beside.are_first.Goals as goal

pub loop-place-preserved : goal.loop-place-preserved
loop-place-preserved c =
    let own : SpaceRecord → Path = λ s. s.path in
    front_more c.args.paths.now (map own c.args.spaces.now) c.loop-place.place (omega arith) (λ p at. c.is_path_at.ensures c.if-not-is_path_at.false p at) c.loop-place.invariant
