use Rattle.std.proofs.Common.{◌≤◌, length, sym, arith}
use Rattle.mx_model.proofs.TableLemmas.{one_more, all_of}
use Rattle.mx_model.proofs.tables.all_limits.Goals as goal

pub loop-place-preserved : goal.loop-place-preserved
loop-place-preserved c = one_more c.args.tables.now c.loop-place.place (c.in-Some.field-0-0.now, c.in-Some.table.now) (sym c.in-Some.ensures) c.limits.ensures c.loop-place.invariant

pub returns : goal.returns
returns c =
    let l : length c.args.tables.now ≤ c.loop-place.place = let e = c.count-place-end.ensures.all in omega arith in
    all_of c.args.tables.now c.loop-place.place l c.loop-place.invariant
