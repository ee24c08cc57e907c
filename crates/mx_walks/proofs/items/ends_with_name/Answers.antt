use Rattle.mx_walks.proofs.Ends.{ends_at}
use Rattle.mx_walks.proofs.items.ends_with_name.Goals as goal

pub returns-in-Some : goal.returns-in-Some
returns-in-Some c = ends_at c.args.at.now c.in-Some.segment.now c.is_name.result c.in-Some.ensures.value c.is_name.ensures
