use Rattle.std.proofs.Common.{◌∙◌, to_z-of_z}
use Rattle.mx_value.proofs.FixedLaws.{checked-in}
use Rattle.mx_plain.proofs.number.decimal.Goals as goal

pub returns : goal.returns
returns c =
    let f = c.ranges.raw in
    let said = simp to_z-of_z at c.in_range.ensures in
    said ∙ checked-in c.args.raw c.requires
