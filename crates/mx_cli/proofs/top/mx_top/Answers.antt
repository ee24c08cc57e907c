use Rattle.mx_cli.proofs.SureLemmas.{complete_run}
use Rattle.mx_cli.proofs.top.mx_top.Goals as goal

pub returns-then-is_run-clause-answered : goal.returns-then-is_run-clause-answered
returns-then-is_run-clause-answered g c = record {
  run = λ h. c.run_script.ensures;
  complete = λ h. complete_run _ _ _ c.run_script.ensures;
  refused = λ other. absurd (other (c.is_run.ensures.0 c.if-is_run.true));
  later = c.run_script.ensures.run.later;
}
