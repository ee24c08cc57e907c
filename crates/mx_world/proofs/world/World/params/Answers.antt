use Rattle.std.proofs.Common.{◌≡◌}
use Rattle.mx_world.proofs.WorldLemmas.{below}
use Rattle.mx_world.proofs.world.World.params.Goals as goal

pub first_params-requires : goal.first_params-requires
first_params-requires c =
    let v : c.self.inside.text ≡ c.args.self.now = cc in
    below c.self.inside.text c.args.self.now c.self.inside.paths c.args.path.now c.in-Some.layers.now v c.self.invariant c.in-Some.ensures
