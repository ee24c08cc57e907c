use Rattle.std.proofs.Common.{refl}
use Rattle.mx_world.proofs.WorldLemmas.{found_layers, numbered_layers}
use Rattle.mx_world.proofs.world.World.layers_of.Goals as goal

pub returns-then-is_of : goal.returns-then-is_of
returns-then-is_of c = numbered_layers c.args.self.now c.args.self.now c.paths-paths.result.now c.args.path.now (record { 0 = c.get.result }) c.layers.result.now refl (c.is_of.ensures.path c.if-is_of.true) (c.layers.ensures.layered c.args.self.now c.paths-paths.ensures)

pub returns-in-Some : goal.returns-in-Some
returns-in-Some c = found_layers c.args.self.now c.args.self.now c.paths-paths.result.now c.args.path.now c.in-Some.id c.layers-in-Some.result.now refl (c.in-Some.ensures.found c.args.self.now c.paths-paths.ensures) c.layers-in-Some.ensures.exact
