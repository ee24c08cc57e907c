use Rattle.mx_engine.proofs.Kept.{sound_first, first_view}
use Rattle.mx_engine.proofs.Proper.{proper_first}
use Rattle.mx_engine.proofs.engine.Engine.new.Goals as goal

pub invariant_of-result : goal.invariant_of-result
invariant_of-result c = record {
  sound = sound_first c.laws.ensures.begins_right c.in_ok-world.world c.in-Ok.memo c.beginning_laws.ensures.valid c.in_ok-world.ensures c.in-Ok.ensures;
  proper = proper_first c.in_ok-world.world c.in-Ok.memo c.in_ok-world.ensures c.in-Ok.ensures;
}

pub returns : goal.returns
returns c = first_view c.in_ok-world.world c.in-Ok.memo c.in_ok-world.ensures c.in-Ok.ensures
