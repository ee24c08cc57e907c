use Rattle.std.proofs.Common.{length}
use Rattle.mx_script.specs.Script.{commands}
use Rattle.mx_project.specs.Folder.{model_words}
use Rattle.mx_project.specs.Reading.{IsLaidOut, LaysLine, laid_of}
use Rattle.mx_project.proofs.ReadLemmas.{Leads}
use Rattle.mx_project.proofs.model.lay_lines.Given as goal

abbrev pub invariant-commands : goal.invariant-commands
invariant-commands l = record {
  leads : Leads LaysLine (laid_of l.fn.laid.text l.fn.laid.tables.items) (commands model_words l.bytes) (laid_of l.laid.text l.laid.tables.items) l.commands;
  laid : IsLaidOut l.laid.text;
}

abbrev pub decreases-commands : goal.decreases-commands
decreases-commands l = length l.commands
