use Rattle.std.proofs.Common.{◌≡◌, ◌^◌, true, None, rules}
use Rattle.mx_tables.specs.Numbers.{at_most, are_decimals}
use Rattle.mx_tables.proofs.Decimals.{decimals_there}
use Rattle.mx_tables.proofs.number.decimal_size.Goals as goal

pub returns-in_default-at_most : goal.returns-in_default-at_most
returns-in_default-at_most c =
    let there : are_decimals c.args.decimals.now ≡ true = search rules in
    let none : at_most (10 ^ 9) c.args.decimals.now ≡ None = search rules in
    absurd (decimals_there c.args.decimals.now there none)
