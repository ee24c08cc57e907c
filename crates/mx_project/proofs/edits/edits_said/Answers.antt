use Rattle.mx_script.specs.Script.{commands}
use Rattle.mx_project.specs.Folder.{edit_file}
use Rattle.mx_project.specs.Reading.{EditsBy, EditsSay, line_at}
use Rattle.mx_project.proofs.ReadLemmas.{handed_on, leads_on, leads_out, leads_through}
use Rattle.mx_project.proofs.edits.edits_said.Goals as goal

pub commands-preserved : goal.commands-preserved
commands-preserved c =
    leads_on (EditsBy (edit_file c.args.file.now.name c.args.file.now.words.now)) c.args.world.now (commands c.args.file.now.words.now c.args.bytes.now) c.commands.world c.commands.commands c.commands.invariant
    (line_at c.line_number-line.result c.deref.result.now) c.next.new.self c.edit_line.new.world
    (rw (c.line_number-line.ensures, c.deref.ensures.value) (rw c.in-Some.is at c.in_ok-command.ensures.given)) c.in-Ok.ensures

pub returns-in-Err : goal.returns-in-Err
returns-in-Err c =
    handed_on (EditsBy (edit_file c.args.file.now.name c.args.file.now.words.now) c.commands.world (line_at c.line_number-line.result c.deref.result.now))
    (EditsSay (edit_file c.args.file.now.name c.args.file.now.words.now) c.args.world.now c.args.bytes.now) c.in-Err.why
    (λ ne step. leads_out (EditsBy (edit_file c.args.file.now.name c.args.file.now.words.now)) c.args.world.now (commands c.args.file.now.words.now c.args.bytes.now) c.commands.world c.commands.commands c.commands.invariant
    (line_at c.line_number-line.result c.deref.result.now) c.next.new.self c.in-Err.why
    (rw (c.line_number-line.ensures, c.deref.ensures.value) (rw c.in-Some.is at c.in_ok-command.ensures.given)) step)
    c.in-Err.ensures

pub returns : goal.returns
returns c =
    leads_through (EditsBy (edit_file c.args.file.now.name c.args.file.now.words.now)) c.args.world.now (commands c.args.file.now.words.now c.args.bytes.now) c.commands.world c.commands.commands c.commands.invariant
    (rw c.in_default.is at c.in_ok-command.ensures.given).0
