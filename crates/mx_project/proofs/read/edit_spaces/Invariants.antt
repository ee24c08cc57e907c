use Rattle.std.proofs.Common.{◌≡◌, drop, map}
use Rattle.mx_project.specs.Reading.{EditsFrom, space_edits}
use Rattle.mx_project.proofs.ReadLemmas.{Leads}
use Rattle.mx_project.proofs.read.edit_spaces.Given as goal

abbrev pub invariant-loop-top : goal.invariant-loop-top
invariant-loop-top g l = record {
  leads : Leads (EditsFrom (g.F.Files.held l.initial.files) l.folder) l.fn.world (map space_edits l.tops) l.world (map space_edits (drop l.top-index l.tops));
  held : g.F.Files.held l.files ≡ g.F.Files.held l.initial.files;
  reads : g.F.Files.read_faults l.files ≡ g.F.Files.read_faults l.initial.files;
  writes : g.F.Files.write_faults l.files ≡ g.F.Files.write_faults l.initial.files;
}
