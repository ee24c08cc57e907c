use Rattle.std.proofs.Common.{refl}
use Rattle.mx_commands.specs.Step.{run_state}
use Rattle.mx_run.proofs.AtLemmas.{wrote_nothing}
use Rattle.mx_run.proofs.TakeLemmas.{takes_last}
use Rattle.mx_run.proofs.take.finish_commands.Goals as goal

pub returns-in_default-clause-output : goal.returns-in_default-clause-output
returns-in_default-clause-output g c = wrote_nothing _ _ (rw c.in_default.is (refl, refl))

pub returns-in-Ok-clause-output : goal.returns-in-Ok-clause-output
returns-in-Ok-clause-output g c =
    takes_last (run_state c.args.interpreter.now.engine (g.F.Files.held c.args.files.now)) c.args.pending c.in-Some.command c.deref.result.now c.in-Some.is c.deref.ensures.value _ _ _ c.in-Ok.ensures.output
