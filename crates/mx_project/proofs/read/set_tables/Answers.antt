use Rattle.std.proofs.Common.{◌≡◌, ◌∙◌, ◌+◌, ◌<◌, ◌≤◌, length, [], ◌∷◌, Option, Ok, Err, drop, ap, sym, subst, rules}
use Rattle.std.proofs.Math.ListN.{drop_of_length-le}
use Rattle.mx_c3.proofs.ListLemmas.{drop_more}
use Rattle.mx_outside.specs.Files.{FileMap}
use Rattle.mx_model.specs.Records.{Name}
use Rattle.mx_project.specs.Reading.{OneByOne, SetsTable, UnlessFault}
use Rattle.mx_project.proofs.ReadLemmas.{leads_on, leads_out, leads_through, faulted}
use Rattle.mx_project.proofs.read.set_tables.Goals as goal

pub loop-name-preserved : goal.loop-name-preserved
loop-name-preserved g c =
    let within : c.loop-name.name-index < length c.args.tables.now = search rules in
    let next : drop c.loop-name.name-index c.args.tables.now ≡ c.name-item.result ∷ drop (c.loop-name.name-index + 1) c.args.tables.now =
    drop_more c.args.tables.now c.loop-name.name-index c.name-item.result within ∙ ap (λ (name : Name). name ∷ drop (c.loop-name.name-index + 1) c.args.tables.now) (sym c.name-item.is) in
    record {
      leads = leads_on (SetsTable (g.F.Files.held c.args.files.now) c.args.folder.now) c.args.world.now c.args.tables.now c.loop-name.world (drop c.loop-name.name-index c.args.tables.now) c.loop-name.invariant.leads
          c.name-item.result (drop (c.loop-name.name-index + 1) c.args.tables.now) c.set_table.new.world next
          (subst (λ (told : Option FileMap). SetsTable told c.args.folder.now c.loop-name.world c.name-item.result (Ok c.set_table.new.world)) c.loop-name.invariant.held c.in-Ok.ensures.sets);
      held = c.in-Ok.ensures.held ∙ c.loop-name.invariant.held;
      reads = c.in-Ok.ensures.counted ∙ c.loop-name.invariant.reads;
      writes = c.in-Ok.ensures.no_write ∙ c.loop-name.invariant.writes;
    }

pub returns-in-Err-clause-sets : goal.returns-in-Err-clause-sets
returns-in-Err-clause-sets g c =
    let within : c.loop-name.name-index < length c.args.tables.now = search rules in
    let next : drop c.loop-name.name-index c.args.tables.now ≡ c.name-item.result ∷ drop (c.loop-name.name-index + 1) c.args.tables.now =
    drop_more c.args.tables.now c.loop-name.name-index c.name-item.result within ∙ ap (λ (name : Name). name ∷ drop (c.loop-name.name-index + 1) c.args.tables.now) (sym c.name-item.is) in
    faulted (SetsTable (g.F.Files.held c.args.files.now) c.args.folder.now c.loop-name.world c.name-item.result) (OneByOne (SetsTable (g.F.Files.held c.args.files.now) c.args.folder.now) c.args.world.now c.args.tables.now) c.in-Err.why
    (λ step. leads_out (SetsTable (g.F.Files.held c.args.files.now) c.args.folder.now) c.args.world.now c.args.tables.now c.loop-name.world (drop c.loop-name.name-index c.args.tables.now) c.loop-name.invariant.leads
    c.name-item.result (drop (c.loop-name.name-index + 1) c.args.tables.now) c.in-Err.why next step)
    (subst (λ (told : Option FileMap). UnlessFault (SetsTable told c.args.folder.now c.loop-name.world c.name-item.result) (Err c.in-Err.why)) c.loop-name.invariant.held c.in-Err.ensures.sets)

pub returns-clause-sets : goal.returns-clause-sets
returns-clause-sets g c =
    let past : length c.args.tables.now ≤ c.loop-name.name-index = search rules in
    let none : drop c.loop-name.name-index c.args.tables.now ≡ [] = drop_of_length-le c.args.tables.now past in
    leads_through (SetsTable (g.F.Files.held c.args.files.now) c.args.folder.now) c.args.world.now c.args.tables.now c.loop-name.world (drop c.loop-name.name-index c.args.tables.now) c.loop-name.invariant.leads none
