use Rattle.std.proofs.Common.{length}
use Rattle.mx_script.specs.Script.{commands}
use Rattle.mx_project.specs.Folder.{edit_file}
use Rattle.mx_project.specs.Reading.{EditsBy}
use Rattle.mx_project.proofs.ReadLemmas.{Leads}
use Rattle.mx_project.proofs.edits.edits_said.Given as goal

abbrev pub invariant-commands : goal.invariant-commands
invariant-commands l = Leads (EditsBy (edit_file l.file.name l.file.words.now)) l.fn.world (commands l.file.words.now l.bytes) l.world l.commands

abbrev pub decreases-commands : goal.decreases-commands
decreases-commands l = length l.commands
