use Rattle.std.proofs.Common.{◌≡◌, List, ◌∙◌, ap}
use Rattle.indexmap.specs.IndexMap.{insert_entry}
use Rattle.mx_value.specs.Name.{same_path}
use Rattle.mx_paths.specs.Table.{Row}
use Rattle.mx_paths.proofs.TableLemmas.{pushed}
use Rattle.mx_paths.proofs.table.Paths.push.Goals as goal

pub returns-clause-ok : goal.returns-clause-ok
returns-clause-ok c =
    let v : c.self.inside.rows.entries ≡ c.args.self.now = cc in
    c.in_ok-insert.ensures.entries ∙ ap (λ (rows : List Row). insert_entry same_path rows c.args.path c.args.layers) v ∙ pushed c.args.self.now c.args.path c.args.layers c.requires.new
