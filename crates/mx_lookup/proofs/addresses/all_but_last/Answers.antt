use Rattle.std.proofs.Common.{◌≡◌, ◌-◌, length, arith}
use Rattle.mx_lookup.proofs.Paths.{parent_taken}
use Rattle.mx_lookup.proofs.addresses.all_but_last.Goals as goal

pub returns : goal.returns
returns g c =
    let n : c.saturating_sub.result ≡ length c.args.items.now - 1 = omega arith in
    rw n (parent_taken c.args.items.now)
