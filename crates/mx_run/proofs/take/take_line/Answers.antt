use Rattle.std.proofs.Common.{Option, sym}
use Rattle.mx_commands.specs.Step.{run_state}
use Rattle.mx_script.specs.declared.commands.Pending.{Pending}
use Rattle.mx_run.proofs.CountLemmas.{after_more}
use Rattle.mx_run.proofs.TakeLemmas.{takes_next, takes_stop}
use Rattle.mx_run.proofs.take.take_line.Goals as goal

pub returns-in-Ok-answer-clause-output : goal.returns-in-Ok-answer-clause-output
returns-in-Ok-answer-clause-output g c =
    takes_next c.args.number (run_state c.args.interpreter.now.engine (g.F.Files.held c.args.files.now)) c.args.pending c.in-Some.command c.deref.result.now c.args.line.now c.strip_cr-line.result.now c.in-Some.is c.deref.ensures.value c.strip_cr-line.ensures (sym c.if-continues.ensures)
    _ _ _ _ _ _ c.in-Ok-answer.ensures.output c.start_line-in-Ok-answer.ensures.output

pub returns-in-Err-clause-output : goal.returns-in-Err-clause-output
returns-in-Err-clause-output g c =
    takes_stop c.args.number (run_state c.args.interpreter.now.engine (g.F.Files.held c.args.files.now)) c.args.pending c.in-Some.command c.deref.result.now c.args.line.now c.strip_cr-line.result.now c.in-Some.is c.deref.ensures.value c.strip_cr-line.ensures (sym c.if-continues.ensures)
    c.in-Err.failure _ _ c.in-Err.ensures.output

pub returns-in-Ok-answer-clause-counted : goal.returns-in-Ok-answer-clause-counted
returns-in-Ok-answer-clause-counted g c = after_more (Option Pending) c.start_line-in-Ok-answer.result _ _ _ c.in-Ok-answer.ensures.counted c.start_line-in-Ok-answer.ensures.counted
