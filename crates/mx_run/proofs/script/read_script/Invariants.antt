use Rattle.std.proofs.Common.{◌≡◌, ◌-◌}
use Rattle.mx_run.specs.At.{At}
use Rattle.mx_run.specs.Counts.{NoneFailed, counts}
use Rattle.mx_run.specs.Transcript.{Traded}
use Rattle.mx_run.proofs.script.read_script.Given as goal

abbrev pub invariant-reads : goal.invariant-reads
invariant-reads g l = record {
  output : Traded (g.S.Source.left l.initial.script) (g.S.Source.left l.script) (g.K.Sink.taken l.initial.out) (g.K.Sink.taken l.out) (At (g.F.Files.held l.initial.files) (g.F.Files.held l.files) l.session);
  reads_kept : g.S.Source.faults l.script ≡ g.S.Source.faults l.initial.script;
  held : g.F.Files.held l.files ≡ g.F.Files.held l.initial.files;
  others_kept : NoneFailed (counts (g.K.Sink.faults l.initial.out) (g.F.Files.read_faults l.initial.files) (g.F.Files.write_faults l.initial.files))
      (counts (g.K.Sink.faults l.out) (g.F.Files.read_faults l.files) (g.F.Files.write_faults l.files));
}

abbrev pub decreases-reads : goal.decreases-reads
decreases-reads g l = 16777217 - l.session.size
