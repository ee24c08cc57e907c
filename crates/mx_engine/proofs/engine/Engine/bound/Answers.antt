use Rattle.mx_engine.proofs.BoundTold.{bound_told}
use Rattle.mx_engine.proofs.engine.Engine.bound.Goals as goal

pub bound-requires : goal.bound-requires
bound-requires c = c.self.invariant.sound.kept

pub returns : goal.returns
returns c = bound_told c.self.inside.world c.self.inside.memo c.self.inside.limit c.args.self.now c.args.node.now c.bound.result c.self.view_is c.bound.ensures
