use Rattle.std.proofs.Common.{◌≡◌}
use Rattle.mx_world.proofs.WorldLemmas.{below}
use Rattle.mx_world.proofs.world.World.name.Goals as goal

pub name_in-requires : goal.name_in-requires
name_in-requires c =
    let v : c.self.inside.text ≡ c.args.self.now = cc in
    below c.self.inside.text c.args.self.now c.self.inside.paths c.args.path.now c.in-Some.layers.now v c.self.invariant c.in-Some.ensures
