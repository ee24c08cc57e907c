use Rattle.std.proofs.Common.{◌≡◌, ℕ, List, ◌++◌, Option, length}
use Rattle.mx_outside.specs.Files.{FileMap}
use Rattle.mx_run.specs.At.{At}
use Rattle.mx_run.specs.Counts.{NoneFailed, counts}
use Rattle.mx_run.specs.Transcript.{Wrote}
use Rattle.mx_run.proofs.session.Session.feed.Given as goal

abbrev pub invariant-lines : goal.invariant-lines
invariant-lines g l = (done : List ℕ) × (l.piece ≡ done ++ l.rest)
    × ((first : Option FileMap) (read : List ℕ) (written : List ℕ) → At first (g.F.Files.held l.initial.files) l.initial.self read written
    → Wrote (g.K.Sink.taken l.initial.out) (g.K.Sink.taken l.out) (λ block. At first (g.F.Files.held l.files) l.self (read ++ done) (written ++ block)))
    × (g.F.Files.held l.files ≡ g.F.Files.held l.initial.files)
    × NoneFailed (counts (g.K.Sink.faults l.initial.out) (g.F.Files.read_faults l.initial.files) (g.F.Files.write_faults l.initial.files))
    (counts (g.K.Sink.faults l.out) (g.F.Files.read_faults l.files) (g.F.Files.write_faults l.files))

abbrev pub decreases-lines : goal.decreases-lines
decreases-lines g l = length l.rest
