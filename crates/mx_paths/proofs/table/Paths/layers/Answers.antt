use Rattle.std.proofs.Common.{◌≡◌, Some, rules}
use Rattle.mx_paths.specs.Table.{layers_at}
use Rattle.mx_paths.proofs.FindLemmas.{layered_in}
use Rattle.mx_paths.proofs.table.Paths.layers.Goals as goal

pub returns-clause-layered : goal.returns-clause-layered
returns-clause-layered c = λ text is.
    let e : layers_at c.args.self.now c.args.id ≡ Some c.in-Some.layers.now = search rules in
    layered_in text c.args.self.now is c.args.id c.in-Some.layers.now e
