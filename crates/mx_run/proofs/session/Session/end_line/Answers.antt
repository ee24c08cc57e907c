use Rattle.std.proofs.Common.{ap, arith}
use Rattle.mx_script.specs.Given.{pending_of}
use Rattle.mx_script.specs.declared.commands.Pending.{Pending}
use Rattle.std.proofs.Common.{Option}
use Rattle.mx_run.proofs.AtLemmas.{fed_err, fed_ok}
use Rattle.mx_run.proofs.session.Session.end_line.Goals as goal

pub returns-in-Ok-clause-output : goal.returns-in-Ok-clause-output
returns-in-Ok-clause-output g c = λ first read written at.
    fed_ok first _ _ _ _ _ read written at c.take-pending.result (ap (λ (p : Option Pending). pending_of p) c.take-pending.ensures.value) c.deref.result.now c.deref.ensures.value
    _ _ c.in-Ok.pending _ _ c.clear.ensures.items (omega arith) c.in-Ok.ensures.output

pub returns-in-Err-clause-output : goal.returns-in-Err-clause-output
returns-in-Err-clause-output g c = λ first read written at.
    fed_err first _ _ _ _ _ read written at c.take-pending.result (ap (λ (p : Option Pending). pending_of p) c.take-pending.ensures.value) c.deref.result.now c.deref.ensures.value
    _ _ c.in-Err.stop (omega arith) c.in-Err.ensures.output
