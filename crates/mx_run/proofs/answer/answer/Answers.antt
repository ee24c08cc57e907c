use Rattle.std.proofs.Common.{refl, sym, subst, ap, Err, List, ℕ}
use Rattle.mx_outside.specs.declared.files.ReadFailure.{ReadFailure}
use Rattle.mx_commands.specs.Step.{Step, command_at, run_state}
use Rattle.mx_run.proofs.AnswerLemmas.{unread, unwritten, unread_counted}
use Rattle.mx_run.proofs.RunLemmas.{run_one}
use Rattle.mx_run.proofs.answer.answer.Goals as goal

pub returns-in-Err-clause-output : goal.returns-in-Err-clause-output
returns-in-Err-clause-output g c =
    unread (run_state c.args.interpreter.now.engine (g.F.Files.held c.args.files.now)) (command_at c.args.number c.args.text.now) _ c.in-Err.failure c.stop_of_file.ensures
    (λ e. c.in-Err.ensures.asks (ap (λ (f : ReadFailure). Err f) e)) _

pub returns-in-Err-clause-counted : goal.returns-in-Err-clause-counted
returns-in-Err-clause-counted g c =
    unread_counted _ _ _ c.in-Err.failure c.stop_of_file.ensures refl c.in-Err.ensures.no_write c.in-Err.ensures.later (λ e. c.in-Err.ensures.failed (ap (λ (f : ReadFailure). Err f) e))

pub returns-in-Err-write_whole-clause-output : goal.returns-in-Err-write_whole-clause-output
returns-in-Err-write_whole-clause-output g c =
    let state = run_state c.args.interpreter.now.engine (g.F.Files.held c.args.files.now) in
    let after = run_state c.answer.new.self.engine (g.F.Files.held c.answer.new.files) in
    let command = command_at c.args.number c.args.text.now in
    let step = subst (λ (b : List ℕ). Step state command b after) (sym c.deref.ensures.value) c.in_default.ensures.step in
    unwritten state command _ c.in-Err-write_whole.failure c.stop_of.ensures _ _ c.deref.result.now after step c.in-Err-write_whole.ensures.err

pub returns-clause-output : goal.returns-clause-output
returns-clause-output g c =
    let state = run_state c.args.interpreter.now.engine (g.F.Files.held c.args.files.now) in
    let after = run_state c.answer.new.self.engine (g.F.Files.held c.answer.new.files) in
    let command = command_at c.args.number c.args.text.now in
    let step = subst (λ (b : List ℕ). Step state command b after) (sym c.deref.ensures.value) c.in_default.ensures.step in
    record { written = c.deref.result.now; taken = c.in_default-write_whole.ensures.ok; holds = run_one state command c.deref.result.now after step }
