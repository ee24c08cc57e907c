use Rattle.std.proofs.Common.{◌<◌, length, arith}
use Rattle.mx_paths.proofs.Expanded.{walked_all}
use Rattle.mx_paths.proofs.Places.{walked_whole}
use Rattle.mx_paths.proofs.table.Paths.build.Goals as goal

pub returns : goal.returns
returns c =
    let few : length c.loop-place.paths < c.loop-place.place = omega arith in
    walked_all c.args.text.now c.loop-place.paths (walked_whole c.args.text.now c.loop-place.paths c.loop-place.place few c.loop-place.invariant.near c.loop-place.invariant.walked)
