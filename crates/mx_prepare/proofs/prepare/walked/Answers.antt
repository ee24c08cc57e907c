use Rattle.std.proofs.Common.{sym, subst, Err}
use Rattle.mx_model.specs.Records.{ModelRecord}
use Rattle.mx_prepare.specs.Prepared.{IsWalked}
use Rattle.mx_prepare.proofs.PrepareLemmas.{kept_world, kept_walk, walked_ok}
use Rattle.mx_prepare.proofs.prepare.walked.Goals as goal

pub of-requires : goal.of-requires
of-requires c = kept_world c.args.world.now c.args.text c.args.edit.now c.in-Ok.paths (sym c.if-keeps_shape.ensures) c.requires.accepted.is c.requires.valid c.in-Ok.ensures c.requires.ready c.requires.named

pub returns-in-Ok : goal.returns-in-Ok
returns-in-Ok c = walked_ok c.args.world.now c.args.text c.of.result c.args.edit.now c.of.ensures c.requires.accepted.is (kept_walk c.args.world.now c.args.text c.args.edit.now (sym c.if-keeps_shape.ensures) c.requires.accepted.is c.requires.valid)

pub with_paths-requires-clause-sound : goal.with_paths-requires-clause-sound
with_paths-requires-clause-sound c = c.requires.next.sound

pub returns-in-Ok-with_paths : goal.returns-in-Ok-with_paths
returns-in-Ok-with_paths c = walked_ok c.args.world.now c.args.text c.in-Ok-with_paths.made c.args.edit.now c.in-Ok-with_paths.ensures.0 c.requires.accepted.is c.in-Ok-with_paths.ensures.1

pub returns-in-Err-with_paths : goal.returns-in-Err-with_paths
returns-in-Err-with_paths c = subst (λ (t : ModelRecord). IsWalked t (Err c.in-Err-with_paths.why)) c.requires.accepted.is c.in-Err-with_paths.ensures
