use Rattle.std.proofs.Common.{◌≡◌, ◌∙◌, ◌+◌, ◌<◌, ◌≤◌, length, List, [], ◌∷◌, Option, Ok, Err, drop, map, ap, sym, subst, rules}
use Rattle.std.proofs.Math.ListN.{drop_of_length-le}
use Rattle.mx_c3.proofs.ListLemmas.{drop_more}
use Rattle.mx_outside.specs.Files.{FileMap}
use Rattle.mx_model.specs.Records.{Name}
use Rattle.mx_project.specs.Folder.{EditFile, edit_file, space_words}
use Rattle.mx_project.specs.Reading.{EditsFrom, ReadsSpaces, UnlessFault, space_edits}
use Rattle.mx_project.proofs.ReadLemmas.{leads_on, leads_out, leads_through, faulted}
use Rattle.mx_project.proofs.WordLemmas.{space_edits as says_edits}
use Rattle.mx_project.proofs.read.edit_spaces.Goals as goal

pub edits_from-requires : goal.edits_from-requires
edits_from-requires g c = says_edits

pub loop-top-preserved : goal.loop-top-preserved
loop-top-preserved g c =
    let within : c.loop-top.top-index < length c.args.tops.now = search rules in
    let next : drop c.loop-top.top-index c.args.tops.now ≡ c.top-item.result ∷ drop (c.loop-top.top-index + 1) c.args.tops.now =
    drop_more c.args.tops.now c.loop-top.top-index c.top-item.result within ∙ ap (λ (name : Name). name ∷ drop (c.loop-top.top-index + 1) c.args.tops.now) (sym c.top-item.is) in
    let file : edit_file c.in_ok-name.name space_words ≡ space_edits c.top-item.result = ap (λ (name : Name). edit_file name space_words) c.in_ok-name.ensures in
    record {
      leads = leads_on (EditsFrom (g.F.Files.held c.args.files.now) c.args.folder.now) c.args.world.now (map space_edits c.args.tops.now) c.loop-top.world (map space_edits (drop c.loop-top.top-index c.args.tops.now)) c.loop-top.invariant.leads
          (space_edits c.top-item.result) (map space_edits (drop (c.loop-top.top-index + 1) c.args.tops.now)) c.edits_from.new.world (ap (λ (names : List Name). map space_edits names) next)
          (subst (λ (f : EditFile). EditsFrom (g.F.Files.held c.args.files.now) c.args.folder.now c.loop-top.world f (Ok c.edits_from.new.world)) file
          (subst (λ (told : Option FileMap). EditsFrom told c.args.folder.now c.loop-top.world (edit_file c.in_ok-name.name space_words) (Ok c.edits_from.new.world)) c.loop-top.invariant.held c.in-Ok.ensures.edits));
      held = c.in-Ok.ensures.held ∙ c.loop-top.invariant.held;
      reads = c.in-Ok.ensures.counted ∙ c.loop-top.invariant.reads;
      writes = c.in-Ok.ensures.no_write ∙ c.loop-top.invariant.writes;
    }

pub returns-in-Err-clause-edits : goal.returns-in-Err-clause-edits
returns-in-Err-clause-edits g c =
    let within : c.loop-top.top-index < length c.args.tops.now = search rules in
    let next : drop c.loop-top.top-index c.args.tops.now ≡ c.top-item.result ∷ drop (c.loop-top.top-index + 1) c.args.tops.now =
    drop_more c.args.tops.now c.loop-top.top-index c.top-item.result within ∙ ap (λ (name : Name). name ∷ drop (c.loop-top.top-index + 1) c.args.tops.now) (sym c.top-item.is) in
    let file : edit_file c.in_ok-name.name space_words ≡ space_edits c.top-item.result = ap (λ (name : Name). edit_file name space_words) c.in_ok-name.ensures in
    faulted (EditsFrom (g.F.Files.held c.args.files.now) c.args.folder.now c.loop-top.world (space_edits c.top-item.result)) (ReadsSpaces (g.F.Files.held c.args.files.now) c.args.folder.now c.args.tops.now c.args.world.now) c.in-Err.why
    (λ step. leads_out (EditsFrom (g.F.Files.held c.args.files.now) c.args.folder.now) c.args.world.now (map space_edits c.args.tops.now) c.loop-top.world (map space_edits (drop c.loop-top.top-index c.args.tops.now)) c.loop-top.invariant.leads
    (space_edits c.top-item.result) (map space_edits (drop (c.loop-top.top-index + 1) c.args.tops.now)) c.in-Err.why (ap (λ (names : List Name). map space_edits names) next) step)
    (subst (λ (f : EditFile). UnlessFault (EditsFrom (g.F.Files.held c.args.files.now) c.args.folder.now c.loop-top.world f) (Err c.in-Err.why)) file
    (subst (λ (told : Option FileMap). UnlessFault (EditsFrom told c.args.folder.now c.loop-top.world (edit_file c.in_ok-name.name space_words)) (Err c.in-Err.why)) c.loop-top.invariant.held c.in-Err.ensures.edits))

pub returns-clause-edits : goal.returns-clause-edits
returns-clause-edits g c =
    let past : length c.args.tops.now ≤ c.loop-top.top-index = search rules in
    let none : drop c.loop-top.top-index c.args.tops.now ≡ [] = drop_of_length-le c.args.tops.now past in
    leads_through (EditsFrom (g.F.Files.held c.args.files.now) c.args.folder.now) c.args.world.now (map space_edits c.args.tops.now) c.loop-top.world (map space_edits (drop c.loop-top.top-index c.args.tops.now)) c.loop-top.invariant.leads
    (ap (λ (names : List Name). map space_edits names) none)
