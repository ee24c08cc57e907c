use Rattle.std.proofs.Common.{◌∙◌}
use Rattle.mx_members.proofs.MemberLemmas.{place_is}
use Rattle.mx_members.proofs.keys.place_in.Goals as goal

pub returns-clause-place : goal.returns-clause-place
returns-clause-place g c = c.get_index_of.ensures.index ∙ place_is (g.K.PartialEq.eq c.args.key.now.now) c.args.keys.now.keys
