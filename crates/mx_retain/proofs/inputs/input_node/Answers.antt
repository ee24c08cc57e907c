use Rattle.std.proofs.Common.{sym, subst}
use Rattle.mx_model.specs.Sound.{IsSound}
use Rattle.mx_model.proofs.SoundLemmas.{valid_sound}
use Rattle.mx_retain.proofs.inputs.input_node.Goals as goal

pub bound_args-requires-clause-sound : goal.bound_args-requires-clause-sound
bound_args-requires-clause-sound c = subst IsSound (sym c.text.ensures.exact) (valid_sound c.args.world.now c.text.ensures.valid)
