use Rattle.std.proofs.Common.{Option, subst}
use Rattle.mx_model.specs.Binding.{Member}
use Rattle.mx_model.specs.Lookup.{IsBinding}
use Rattle.mx_paths.proofs.FindLemmas.{table_spaces, bound_in}
use Rattle.mx_paths.proofs.table.Paths.lookup.Goals as goal

pub lookup-requires : goal.lookup-requires
lookup-requires c = (table_spaces c.args.text.now c.args.self.now c.args.id c.layers.result.now c.requires.sound (c.layers.ensures.layered c.args.text.now c.requires.table)).1

pub returns : goal.returns
returns c = λ path e.
    let P : Option Member → Type 0 = λ m. IsBinding c.args.text.now c.args.name.now c.lookup.result m in
    subst P (bound_in c.args.text.now c.args.self.now c.args.id c.layers.result.now path c.args.name.now (c.layers.ensures.layered c.args.text.now c.requires.table) e) c.lookup.ensures
