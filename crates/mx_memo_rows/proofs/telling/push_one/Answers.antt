use Rattle.mx_memo_rows.proofs.telling.push_one.Goals as goal

pub push_held-requires : goal.push_held-requires
push_held-requires c = let found = c.in-Some.ensures.some in record { entry = found.entry; among = found.among; is = found.id_is }
