use Rattle.std.proofs.Common.{◌∙◌, to_z-of_z}
use Rattle.mx_value.proofs.FixedLaws.{checked-from}
use Rattle.mx_plain.proofs.number.in_range.Goals as goal

pub returns : goal.returns
returns c =
    let f = c.ranges.raw in
    c.ok_or.ensures.value ∙ checked-from c.from_raw.result c.args.raw (simp to_z-of_z at c.from_raw.ensures)
