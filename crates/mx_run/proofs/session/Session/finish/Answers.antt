use Rattle.std.proofs.Common.{◌≡◌, ◌≢◌, Option, ap, arith, length}
use Rattle.std.proofs.lemmas.List.{nil_from_length}
use Rattle.std.proofs.lemmas.Bool.Decides.{nat_tests}
use Rattle.mx_script.specs.Given.{pending_of}
use Rattle.mx_script.specs.declared.commands.Pending.{Pending}
use Rattle.mx_run.proofs.CountLemmas.{after_more}
use Rattle.mx_run.proofs.EndLemmas.{finish_empty, finish_line, finish_stop}
use Rattle.mx_run.proofs.session.Session.finish.Goals as goal

pub returns-then-is_empty-clause-output : goal.returns-then-is_empty-clause-output
returns-then-is_empty-clause-output g c = λ first read written at.
    let none : length c.args.self.now.line.items ≡ 0 = grind (arith, nat_tests) in
    finish_empty first _ _ _ _ _ read written at c.take-pending.result (ap (λ (p : Option Pending). pending_of p) c.take-pending.ensures.value)
    c.finish_commands.result _ _ _ (nil_from_length _ none) c.finish_commands.ensures.output

pub returns-in-Ok-clause-output : goal.returns-in-Ok-clause-output
returns-in-Ok-clause-output g c = λ first read written at.
    let some : length c.args.self.now.line.items ≢ 0 = grind (arith, nat_tests) in
    finish_line first _ _ _ _ _ read written at c.take-pending.result (ap (λ (p : Option Pending). pending_of p) c.take-pending.ensures.value)
    c.deref.result.now c.deref.ensures.value some
    c.in-Ok.pending _ c.finish_commands-in-Ok.result _ _ _ _ c.in-Ok.ensures.output c.finish_commands-in-Ok.ensures.output

pub returns-in-Err-clause-output : goal.returns-in-Err-clause-output
returns-in-Err-clause-output g c = λ first read written at.
    let some : length c.args.self.now.line.items ≢ 0 = grind (arith, nat_tests) in
    finish_stop first _ _ _ _ _ read written at c.take-pending.result (ap (λ (p : Option Pending). pending_of p) c.take-pending.ensures.value)
    c.deref.result.now c.deref.ensures.value some
    c.in-Err.stop _ _ c.in-Err.ensures.output

pub returns-in-Ok-clause-counted : goal.returns-in-Ok-clause-counted
returns-in-Ok-clause-counted g c = after_more (Unit {0}) c.finish_commands-in-Ok.result _ _ _ c.in-Ok.ensures.counted c.finish_commands-in-Ok.ensures.counted
