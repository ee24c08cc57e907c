use Rattle.std.proofs.Common.{get_or, arith}
use Rattle.mx_c3.proofs.ListLemmas.{has_at}
use Rattle.mx_paths.proofs.walk.Walk.child_path.Goals as goal

pub path_of-own-requires : goal.path_of-own-requires
path_of-own-requires c = c.requires (get_or c.args.spaces.now 0 (record { 0 = 0 })) (has_at c.args.spaces.now 0 (record { 0 = 0 }) (omega (arith, c.in-len1-up.len_at_least)))
