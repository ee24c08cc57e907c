use Rattle.mx_engine_rows.proofs.Fit.{fit_command}
use Rattle.mx_engine_rows.proofs.reading.command.Goals as goal

pub returns-in-Ok : goal.returns-in-Ok
returns-in-Ok c = fit_command c.laws.ensures.edits_are_read c.laws-2.ensures c.args.text.now c.in-Ok.command (c.in-Ok.ensures.found (λ e. absurd cc))
