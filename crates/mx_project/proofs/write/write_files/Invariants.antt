use Rattle.std.proofs.Common.{◌≡◌, take}
use Rattle.mx_project.specs.Writing.{with_files}
use Rattle.mx_project.proofs.write.write_files.Given as goal

abbrev pub invariant-loop-i : goal.invariant-loop-i
invariant-loop-i g l = record {
  set : g.F.Files.held l.files ≡ with_files (g.F.Files.held l.initial.files) l.folder (take l.i l.all);
  writes : g.F.Files.write_faults l.files ≡ g.F.Files.write_faults l.initial.files;
  reads : g.F.Files.read_faults l.files ≡ g.F.Files.read_faults l.initial.files;
}
