use Rattle.std.proofs.Common.{◌≡◌, true, ℕ, List, Ok, Err, subst, rules}
use Rattle.std.proofs.lemmas.Result.{IfOk-weaker, IfErr-weaker}
use Rattle.mx_script.specs.Script.{without_cr}
use Rattle.mx_project.specs.Folder.{project_line}
use Rattle.mx_project.specs.Reading.{Completes, ModelSays, LaysAll, laid_of, first_of, behind_first}
use Rattle.mx_project.proofs.ReadLemmas.{handed_on, model_says, model_stops}
use Rattle.mx_project.proofs.model.model_said.Goals as goal

pub returns-then-not-begins_project-clause-refused : goal.returns-then-not-begins_project-clause-refused
returns-then-not-begins_project-clause-refused c = rw c.in_ok-name.ensures (ModelSays.bad_first (λ same. let is : c.begins_project.result ≡ true = c.begins_project.ensures.1 same in absurd cc))

pub returns-in-Ok-clause-says : goal.returns-in-Ok-clause-says
returns-in-Ok-clause-says c =
    let first : without_cr (first_of c.args.bytes.now) ≡ project_line = c.begins_project.ensures.0 (search rules) in
    let lays : LaysAll (behind_first c.args.bytes.now) (Ok (laid_of c.in-Ok.laid.text c.in-Ok.laid.tables.items)) =
    subst (λ (bytes : List ℕ). LaysAll bytes (Ok (laid_of c.in-Ok.laid.text c.in-Ok.laid.tables.items))) c.behind_first.ensures.rest c.in-Ok.ensures.lays in
    IfOk-weaker c.complete.result _ _ (λ m done. model_says c.args.bytes.now first (laid_of c.in-Ok.laid.text c.in-Ok.laid.tables.items) (Ok (laid_of m.world m.tables.items)) lays done) c.complete.ensures.complete

pub returns-in-Ok-clause-refused : goal.returns-in-Ok-clause-refused
returns-in-Ok-clause-refused c =
    let first : without_cr (first_of c.args.bytes.now) ≡ project_line = c.begins_project.ensures.0 (search rules) in
    let lays : LaysAll (behind_first c.args.bytes.now) (Ok (laid_of c.in-Ok.laid.text c.in-Ok.laid.tables.items)) =
    subst (λ (bytes : List ℕ). LaysAll bytes (Ok (laid_of c.in-Ok.laid.text c.in-Ok.laid.tables.items))) c.behind_first.ensures.rest c.in-Ok.ensures.lays in
    IfErr-weaker c.complete.result _ _ (λ why done. handed_on (Completes (laid_of c.in-Ok.laid.text c.in-Ok.laid.tables.items)) (ModelSays c.args.bytes.now) why
    (λ ne h. model_says c.args.bytes.now first (laid_of c.in-Ok.laid.text c.in-Ok.laid.tables.items) (Err why) lays h) done) c.complete.ensures.refused

pub returns-in-Err-clause-refused : goal.returns-in-Err-clause-refused
returns-in-Err-clause-refused c =
    let first : without_cr (first_of c.args.bytes.now) ≡ project_line = c.begins_project.ensures.0 (search rules) in
    handed_on (LaysAll c.behind_first.result.now) (ModelSays c.args.bytes.now) c.in-Err.why
    (λ ne lays. model_stops c.args.bytes.now first c.in-Err.why (subst (λ (bytes : List ℕ). LaysAll bytes (Err c.in-Err.why)) c.behind_first.ensures.rest lays)) c.in-Err.ensures.refused
