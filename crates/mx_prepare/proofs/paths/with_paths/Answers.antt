use Rattle.mx_prepare.proofs.PrepareLemmas.{new_world}
use Rattle.mx_prepare.proofs.paths.with_paths.Goals as goal

pub of-requires : goal.of-requires
of-requires c = new_world c.args.text c.in-Ok.paths c.in-Ok-new.shared c.in-Ok-new.ensures c.requires.ready c.requires.named c.in-Ok.ensures

pub returns-in-Ok-new : goal.returns-in-Ok-new
returns-in-Ok-new c = (c.of.ensures, c.in-Ok.ensures.1)
