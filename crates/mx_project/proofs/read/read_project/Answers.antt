use Rattle.std.proofs.Common.{Option, Ok, Err, subst}
use Rattle.mx_outside.specs.Files.{FileMap}
use Rattle.mx_project.specs.Folder.{model_file}
use Rattle.mx_project.specs.Reading.{InTurn, OfFile, ModelSays, ReadsTables, IsReadAs, UnlessFault, laid_of}
use Rattle.mx_project.proofs.ReadLemmas.{faulted}
use Rattle.mx_project.proofs.read.read_project.Goals as goal

pub returns-in-Err-clause-reads : goal.returns-in-Err-clause-reads
returns-in-Err-clause-reads g c =
    let told = g.F.Files.held c.args.files.now in
    faulted (OfFile told c.args.dir.now model_file ModelSays) (IsReadAs told c.args.dir.now) c.in-Err.why (λ model. InTurn.stops c.in-Err.why model) c.in-Err.ensures.refused

pub returns-in-Ok-read_tables-clause-reads : goal.returns-in-Ok-read_tables-clause-reads
returns-in-Ok-read_tables-clause-reads g c =
    let laid = laid_of c.in-Ok.model.world c.in-Ok.model.tables.items in
    InTurn.goes_on laid c.in-Ok.ensures.says (subst (λ (told : Option FileMap). ReadsTables told c.args.dir.now laid (Ok c.read_tables.new.model.world)) c.in-Ok.ensures.held c.in-Ok-read_tables.ensures.reads)

pub returns-in-Err-read_tables-clause-reads : goal.returns-in-Err-read_tables-clause-reads
returns-in-Err-read_tables-clause-reads g c =
    let laid = laid_of c.in-Ok.model.world c.in-Ok.model.tables.items in
    let told = g.F.Files.held c.args.files.now in
    faulted (ReadsTables told c.args.dir.now laid) (IsReadAs told c.args.dir.now) c.in-Err-read_tables.why (λ rest. InTurn.goes_on laid c.in-Ok.ensures.says rest)
    (subst (λ (files : Option FileMap). UnlessFault (ReadsTables files c.args.dir.now laid) (Err c.in-Err-read_tables.why)) c.in-Ok.ensures.held c.in-Err-read_tables.ensures.reads)
