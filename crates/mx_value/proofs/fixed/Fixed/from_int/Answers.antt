use Rattle.std.proofs.Common.{◌∙◌, ap, ◌*ℤ◌, arith, to_z-of_z}
use Rattle.std.proofs.lemmas.Int.{ints}
use Rattle.mx_value.specs.Fixed.{one, checked, IsInRange}
use Rattle.mx_value.proofs.FixedLaws.{scaled-back, from_int-checked}
use Rattle.mx_value.proofs.fixed.Fixed.from_int.Goals as goal

pub returns : goal.returns
returns c =
    let f = c.ranges.n in
    let e = simp to_z-of_z at c.from.ensures in
    let small : IsInRange c.args.n = omega (arith, ints) in
    (rw e at c.in_range.ensures) ∙ ap checked (scaled-back c.args.n small) ∙ from_int-checked c.args.n
