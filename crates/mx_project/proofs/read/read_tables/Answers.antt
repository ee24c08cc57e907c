use Rattle.std.proofs.Common.{Option, Ok, subst}
use Rattle.mx_outside.specs.Files.{FileMap}
use Rattle.mx_project.specs.Reading.{InTurn, OneByOne, SetsTable, ReadsEdits, ReadsTables, UnlessFault, laid_of, left_by}
use Rattle.mx_project.proofs.ReadLemmas.{faulted, weaker_fault}
use Rattle.mx_project.proofs.read.read_tables.Goals as goal

pub returns-in-Ok-clause-reads : goal.returns-in-Ok-clause-reads
returns-in-Ok-clause-reads g c =
    let told = g.F.Files.held c.args.files.now in
    let tables : OneByOne (SetsTable told c.args.folder.now) c.args.model.now.world c.args.model.now.tables.items (Ok c.set_tables.new.world) = rw c.as_slice.ensures.value at c.in-Ok.ensures.sets in
    weaker_fault (ReadsEdits told c.args.folder.now c.set_tables.new.world) (ReadsTables told c.args.folder.now (laid_of c.args.model.now.world c.args.model.now.tables.items)) (left_by c.read_edits.result c.read_edits.new.world)
    (λ answer edits. InTurn.goes_on c.set_tables.new.world tables edits)
    (subst (λ (files : Option FileMap). UnlessFault (ReadsEdits files c.args.folder.now c.set_tables.new.world) (left_by c.read_edits.result c.read_edits.new.world)) c.in-Ok.ensures.held c.read_edits.ensures.edits)

pub returns-in-Err-clause-reads : goal.returns-in-Err-clause-reads
returns-in-Err-clause-reads g c =
    let told = g.F.Files.held c.args.files.now in
    faulted (OneByOne (SetsTable told c.args.folder.now) c.args.model.now.world c.as_slice.result.now) (ReadsTables told c.args.folder.now (laid_of c.args.model.now.world c.args.model.now.tables.items)) c.in-Err.why
    (λ tables. InTurn.stops c.in-Err.why (rw c.as_slice.ensures.value at tables)) c.in-Err.ensures.sets
