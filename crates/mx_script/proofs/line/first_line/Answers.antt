use Rattle.std.proofs.Common.{◌<◌, length, arith}
use Rattle.std.proofs.lemmas.Grind.{common_steps}
use Rattle.std.proofs.lemmas.List.{take_rest}
use Rattle.mx_script.proofs.Lines.{lines_at_lf, lines_without_lf}
use Rattle.mx_script.proofs.line.first_line.Goals as goal

pub returns-in-Some-clause-lines : goal.returns-in-Some-clause-lines
returns-in-Some-clause-lines c =
    let bytes = c.args.bytes.now in
    let cut = lines_at_lf bytes c.in-Some.end c.in-Some.ensures.within c.in-Some.ensures.before c.in-Some.ensures.found in
    rw take_rest cut

pub returns-in-None-clause-lines : goal.returns-in-None-clause-lines
returns-in-None-clause-lines c =
    let some : 0 < length c.args.bytes.now = grind (arith, common_steps) in
    lines_without_lf c.args.bytes.now some c.in-None.ensures.none
