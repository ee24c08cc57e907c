use Rattle.std.proofs.Common.{◌≡◌, drop}
use Rattle.mx_project.specs.Reading.{SetsTable}
use Rattle.mx_project.proofs.ReadLemmas.{Leads}
use Rattle.mx_project.proofs.read.set_tables.Given as goal

abbrev pub invariant-loop-name : goal.invariant-loop-name
invariant-loop-name g l = record {
  leads : Leads (SetsTable (g.F.Files.held l.initial.files) l.folder) l.fn.world l.tables l.world (drop l.name-index l.tables);
  held : g.F.Files.held l.files ≡ g.F.Files.held l.initial.files;
  reads : g.F.Files.read_faults l.files ≡ g.F.Files.read_faults l.initial.files;
  writes : g.F.Files.write_faults l.files ≡ g.F.Files.write_faults l.initial.files;
}
