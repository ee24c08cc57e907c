use Rattle.std.proofs.Common.{◌≡◌, ◌∙◌}
use Rattle.indexmap.specs.IndexSet.{insert_all}
use Rattle.indexmap.proofs.CallerLemmas.{Drains-YieldsInOrder}
use Rattle.mx_read_set.proofs.distinct.by_hash.Goals as goal

pub returns : goal.returns
returns g c =
    let ran = c.in_ok-extend.ensures.ran in
    let all : ran.1 ≡ c.args.items.items = Drains-YieldsInOrder _ _ ran.0 ran.1 ran.2.3 ran.4 ∙ ran.2.0 in
    ran.3.0 ∙ (λ j. insert_all g.T.PartialEq.eq (c.in_ok-set.ensures.empty j) (all j))
