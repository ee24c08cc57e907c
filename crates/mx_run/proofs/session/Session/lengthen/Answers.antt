use Rattle.std.proofs.Common.{◌≡◌, ◌+◌, ◌++◌, List, ℕ, length, ap, sym, subst, arith}
use Rattle.std.proofs.lemmas.Grind.{common_steps}
use Rattle.mx_commands.specs.Step.{run_state}
use Rattle.mx_run.specs.At.{IsAfter}
use Rattle.mx_script.specs.Given.{pending_of}
use Rattle.mx_run.proofs.AtLemmas.{halts_memory, cut_line, at_inside}
use Rattle.mx_run.proofs.session.Session.lengthen.Goals as goal

pub returns-then-is_err-clause-output : goal.returns-then-is_err-clause-output
returns-then-is_err-clause-output c = λ first now read written none at. halts_memory first _ _ _ _ _ read written at c.args.bytes.now

pub returns-clause-output : goal.returns-clause-output
returns-clause-output c = λ first now read written none at.
    let grown : c.extend_from_slice.new.self.items ≡ c.args.self.now.line.items ++ c.args.bytes.now = grind (arith, common_steps) in
    let after = at_inside first _ _ _ _ _ read written at c.args.bytes.now none (omega (arith, ap length at.open_line, at.within.rest)) (omega arith) in
    subst (λ (l : List ℕ). IsAfter first l c.args.self.now.lines (c.args.self.now.size + length c.args.bytes.now) (pending_of c.args.self.now.pending) (run_state c.args.self.now.interpreter.engine now) (read ++ c.args.bytes.now) written) (sym grown) after

pub returns-then-count-room-clause-output : goal.returns-then-count-room-clause-output
returns-then-count-room-clause-output c = λ first now read written none at. cut_line first _ _ _ _ _ read written at c.args.bytes.now none c.min-room.result (omega arith) (omega arith) (omega arith)
