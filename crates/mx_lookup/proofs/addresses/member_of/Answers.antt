use Rattle.std.proofs.Common.{◌≤◌, ◌∙◌, length, sym, arith}
use Rattle.mx_lookup.proofs.Paths.{member_last, no_member}
use Rattle.mx_lookup.proofs.addresses.member_of.Goals as goal

pub returns-then-len-lt2 : goal.returns-then-len-lt2
returns-then-len-lt2 c = sym (no_member c.args.path.now (omega arith))

pub returns : goal.returns
returns c =
    let long : 2 ≤ length c.args.path.now = omega arith in
    sym c.in-Some.ensures ∙ member_last c.args.path.now long
