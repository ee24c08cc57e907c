use Rattle.mx_script.specs.Script.{commands}
use Rattle.mx_project.specs.Folder.{model_words}
use Rattle.mx_project.specs.Reading.{OneByOne, LaysLine, laid_of, line_at}
use Rattle.mx_project.proofs.ReadLemmas.{handed_on, leads_on, leads_out, leads_through}
use Rattle.mx_project.proofs.model.lay_lines.Goals as goal

pub commands-preserved : goal.commands-preserved
commands-preserved c = record {
  leads = leads_on LaysLine (laid_of c.args.laid.now.text c.args.laid.now.tables.items) (commands model_words c.args.bytes.now) (laid_of c.commands.laid.text c.commands.laid.tables.items) c.commands.commands c.commands.invariant.leads
      (line_at c.line_number-number.result c.deref.result.now) c.next.new.self (laid_of c.lay_line.new.laid.text c.lay_line.new.laid.tables.items)
      (rw (c.line_number-number.ensures, c.deref.ensures.value) (rw c.in-Some.is at c.in_ok-command.ensures.given)) c.in-Ok.ensures.lays;
  laid = c.in-Ok.ensures.kept;
}

pub returns-in-Err-clause-lays : goal.returns-in-Err-clause-lays
returns-in-Err-clause-lays c =
    let before = laid_of c.args.laid.now.text c.args.laid.now.tables.items in
    handed_on (LaysLine (laid_of c.commands.laid.text c.commands.laid.tables.items) (line_at c.line_number-number.result c.deref.result.now)) (OneByOne LaysLine before (commands model_words c.args.bytes.now)) c.in-Err.why
    (λ ne step. leads_out LaysLine before (commands model_words c.args.bytes.now) (laid_of c.commands.laid.text c.commands.laid.tables.items) c.commands.commands c.commands.invariant.leads
    (line_at c.line_number-number.result c.deref.result.now) c.next.new.self c.in-Err.why
    (rw (c.line_number-number.ensures, c.deref.ensures.value) (rw c.in-Some.is at c.in_ok-command.ensures.given)) step)
    c.in-Err.ensures.lays

pub returns-clause-lays : goal.returns-clause-lays
returns-clause-lays c =
    leads_through LaysLine (laid_of c.args.laid.now.text c.args.laid.now.tables.items) (commands model_words c.args.bytes.now) (laid_of c.commands.laid.text c.commands.laid.tables.items) c.commands.commands c.commands.invariant.leads
    (rw c.in_default.is at c.in_ok-command.ensures.given).0
